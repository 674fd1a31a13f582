-- The chain of a mark: its cells in ascending order, each linked to the next.
use Rattle.std.specs.Prelude.{◌≡◌, Bool, true, false, not, List, ◌++◌, ℕ, ◌*◌, ◌<◌, ◌≤◌, length, drop}
use Rattle.lists.specs.Lists.{has, repeats}
use Rattle.numbers.specs.declared.Caps.{Caps}
use Rattle.shapes.specs.Sizes.{most_marks}
use Rattle.picture.specs.State.{State}
use Rattle.picture.specs.Picture.{Pic, chain_of, corner}
use Rattle.numbers.specs.Sizes.{most_around}

-- a cell stands only in the chains of its own marks, has at most eight, none twice, and no chain is longer than 128
pub record Linked (caps : Caps) (s : State) : Type 0 where
  pub held : (v c : ℕ) → s.chain v c ≡ true → has v (s.at c).marks ≡ true
  pub corners : (c : ℕ) → length (s.at c).marks ≤ most_marks
  pub distinct : (c : ℕ) → repeats (s.at c).marks ≡ false
  pub few : (v : ℕ) → length (chain_of caps s v) ≤ most_around

-- what `gather` leaves: the count, and the chain in the first places of the output
pub record Gathered (w : List ℕ) (caps : Caps) (v : ℕ) (o : List ℕ) (r : ℕ) (o' : List ℕ) : Type 0 where
  pub few : r ≤ most_around
  pub size : length o' ≡ length o
  pub list : (s : State) → Pic w caps s → Linked caps s → v < caps.marks
      → (r ≡ length (chain_of caps s v)) × (r ≤ length o → o' ≡ chain_of caps s v ++ drop r o)

-- the cell c, whose corner k is the mark v, may go into the chain of v, or out of it: it is not there yet, or it is
pub record MayLink (caps : Caps) (v k c : ℕ) (on : Bool) (s : State) : Type 0 where
  pub linked : Linked caps s
  pub mark : v < caps.marks
  pub cell : c < caps.cells
  pub place : k < length (s.at c).marks
  pub corner : corner s c k ≡ v
  pub was : s.chain v c ≡ not on
  pub few : on ≡ true → length (chain_of caps s v) < most_around

-- a link of a mesh: 0, or that of a cell below the capacity
abbrev pub Inner : List ℕ → Caps → ℕ → Type 0
Inner w caps x = (s : State) → Pic w caps s → Linked caps s → x ≤ 8 * caps.cells

-- no chain of a mesh leads to another number
pub record Inside (w : List ℕ) (caps : Caps) (r : Bool) : Type 0 where
  pub inside : (s : State) → Pic w caps s → Linked caps s → r ≡ false
