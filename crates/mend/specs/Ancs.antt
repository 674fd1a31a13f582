-- While first anchors are put mark by mark, in one dimension.
use Rattle.std.specs.Prelude.{◌≡◌, true, false, List, ℕ, ◌<◌, ◌≤◌}
use Rattle.lists.specs.Lists.{has}
use Rattle.words.specs.Words.{Only}
use Rattle.shapes.specs.Table.{table}
use Rattle.numbers.specs.declared.Caps.{Caps}
use Rattle.store.specs.Layout.{room}
use Rattle.picture.specs.State.{State, map_with, state_of}
use Rattle.picture.specs.Picture.{Pic}
use Rattle.picture.specs.Changes.{with_anc}
use Rattle.picture.specs.Ready.{Settled}
use Rattle.group.specs.Group.{Around}
use Rattle.mend.specs.Settle.{moved}

-- the first anchor of a mark in a dimension, by the map of s
unfoldable pub anchored : Caps → State → State → ℕ → ℕ → State
anchored caps s s' d v = with_anc s' d v ((state_of (map_with caps s)).anc d v)

-- it may be put
pub record MayPut (caps : Caps) (rows : List (List (List ℕ))) (d v : ℕ) (s : State) : Type 0 where
  pub around : Around caps rows v s
  pub dimension : (1 ≤ d) × (d ≤ 3)

-- s' is s with first anchors right, but for the marks that are left, in the dimension d
pub record Ancs (caps : Caps) (s s' : State) (d : ℕ) (marks : List ℕ) : Type 0 where
  pub at : s'.at ≡ s.at
  pub chain : s'.chain ≡ s.chain
  pub sib : s'.sib ≡ s.sib
  pub way : s'.way ≡ s.way
  pub count : s'.count ≡ s.count
  pub right : (e v : ℕ) → 1 ≤ e → e ≤ 3 → moved d marks e v ≡ false → s'.anc e v ≡ (state_of (map_with caps s)).anc e v

-- siblings are right, and first anchors but for these marks in the dimension d
pub record MayAnchor (caps : Caps) (rows : List (List (List ℕ))) (d : ℕ) (marks : List ℕ) (s : State) : Type 0 where
  pub settled : Settled caps s
  pub types : rows ≡ table
  pub dimension : (1 ≤ d) × (d ≤ 3)
  pub inside : (v : ℕ) → has v marks ≡ true → v < caps.marks
  pub ancs : (e v : ℕ) → 1 ≤ e → moved d marks e v ≡ false → s.anc e v ≡ (state_of (map_with caps s)).anc e v

pub record Anchors (caps : Caps) (rows : List (List (List ℕ))) (d : ℕ) (marks w w' left : List ℕ) : Type 0 where
  pub inside : Only (λ i. i < room caps.marks caps.cells) w w'
  pub state : (s : State) → Pic w caps s → MayAnchor caps rows d marks s → (s' : State) × Pic w' caps s' × Ancs caps s s' d left
