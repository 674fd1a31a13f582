-- After a cell has come or gone, what is around it is settled: the siblings of its facets' sets, the first anchors of its marks.
use Rattle.std.specs.Prelude.{◌≡◌, Bool, true, false, ◌&&◌, List, ℕ, ◌<◌, ◌≤◌, eqb, length}
use Rattle.lists.specs.Lists.{has, any, same_set}
use Rattle.shapes.specs.Shapes.{shape}
use Rattle.shapes.specs.Table.{table}
use Rattle.numbers.specs.declared.Caps.{Caps}
use Rattle.map.specs.Cells.{Map, sets_of}
use Rattle.map.specs.Siblings.{is_half, marks_of}
use Rattle.picture.specs.State.{State, map_with, state_of}
use Rattle.picture.specs.Picture.{sib_word}
use Rattle.picture.specs.Ready.{Ready}

-- the half-facet is live and has one of the sets
unfoldable pub among : Map → List (List ℕ) → ℕ → Bool
among m sets h = is_half m h && any (same_set (marks_of m h)) sets

-- the cell may have moved this first anchor: it is of the cell's own dimension, and of one of its marks
unfoldable pub moved : ℕ → List ℕ → ℕ → ℕ → Bool
moved d marks e v = eqb d e && has v marks

-- a cell of type t on these marks has come or gone: elsewhere siblings and first anchors are right
pub record MaySettle (caps : Caps) (rows : List (List (List ℕ))) (t : ℕ) (marks : List ℕ) (s : State) : Type 0 where
  pub ready : Ready caps s
  pub types : rows ≡ table
  pub typed : (1 ≤ (shape t).dimension) × ((shape t).dimension ≤ 3)
  pub count : length marks ≡ (shape t).marks
  pub inside : (v : ℕ) → has v marks ≡ true → v < caps.marks
  pub sibs : (h : ℕ) → among (map_with caps s) (sets_of t marks) h ≡ false → sib_word s h ≡ sib_word (state_of (map_with caps s)) h
  pub ancs : (d v : ℕ) → 1 ≤ d → moved (shape t).dimension marks d v ≡ false → s.anc d v ≡ (state_of (map_with caps s)).anc d v

-- all siblings and first anchors right
unfoldable pub settled : Caps → State → State
settled caps s = record {
  at = s.at;
  chain = s.chain;
  sib = (state_of (map_with caps s)).sib;
  way = (state_of (map_with caps s)).way;
  anc = (state_of (map_with caps s)).anc;
  count = s.count;
}
