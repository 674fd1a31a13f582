-- An edit made in memory.
use Rattle.std.specs.Prelude.{◌≡◌, Bool, true, cond, not, ◌&&◌, List, ℕ, ◌<◌, eqb, length}
use Rattle.lists.specs.Lists.{has}
use Rattle.words.specs.Words.{Only}
use Rattle.numbers.specs.declared.Caps.{Caps}
use Rattle.numbers.specs.Sizes.{most_around}
use Rattle.store.specs.Layout.{room}
use Rattle.map.specs.Cells.{Map}
use Rattle.map.specs.History.{Edit, edit_answer, changed}
use Rattle.picture.specs.State.{State}
use Rattle.picture.specs.Picture.{Wf, chain_of}
use Rattle.chain.specs.Chain.{Linked}

-- the cell c in all chains of these marks, or out of them
unfoldable pub with_links : State → ℕ → List ℕ → Bool → State
with_links s c marks on = record {
  at = s.at;
  chain = λ u k. cond (eqb c k && has u marks) on (s.chain u k);
  sib = s.sib;
  way = s.way;
  anc = s.anc;
  count = s.count;
}

-- the cell, whose marks these are, may go into their chains, or out of them: it is in none of them yet, or in all
pub record MayLinks (caps : Caps) (c : ℕ) (marks : List ℕ) (on : Bool) (s : State) : Type 0 where
  pub linked : Linked caps s
  pub cell : c < caps.cells
  pub corners : (s.at c).marks ≡ marks
  pub inside : (v : ℕ) → has v marks ≡ true → v < caps.marks
  pub was : (v : ℕ) → has v marks ≡ true → s.chain v c ≡ not on
  pub few : on ≡ true → (v : ℕ) → has v marks ≡ true → length (chain_of caps s v) < most_around

-- an edit that the map accepts, made: the words of the edited map, and nothing beyond the room
pub record Made (caps : Caps) (w w' : List ℕ) (e : Edit) : Type 0 where
  pub inside : Only (λ i. i < room caps.marks caps.cells) w w'
  pub wf : (m : Map) → m.caps ≡ caps → Wf w m → (edit_answer m e).refusal ≡ 0 → Wf w' (changed m e)
