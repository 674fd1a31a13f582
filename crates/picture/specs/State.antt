-- What mesh memory tells: the cells, the chain of each mark, the sibling of each half-facet and the way that it runs, the first anchors, the
-- live counts.
-- While an edit is under way these need not agree; `state_of` is the state of a map, where they do.
use Rattle.std.specs.Prelude.{Bool, cond, List, [], ◌∷◌, ℕ, suc, length}
use Rattle.numbers.specs.declared.Caps.{Caps}
use Rattle.map.specs.Cells.{Body, Map, holds, cells_of}
use Rattle.map.specs.declared.Way.{Way}
use Rattle.map.specs.declared.Way.TheVariants.{Lone}
use Rattle.map.specs.Siblings.{is_half, sibling}
use Rattle.map.specs.Ways.{way}
use Rattle.map.specs.Stars.{anchors}

pub record State : Type 0 where
  -- the cell under a number
  pub at : ℕ → Body
  -- cell c stands in the chain of mark v
  pub chain : ℕ → ℕ → Bool
  -- the sibling of a half-facet; 0 for a number that is none
  pub sib : ℕ → ℕ
  -- the way that it runs; lone for a number that is none
  pub way : ℕ → Way
  -- the first anchor of a mark in a dimension, as number + 1; 0 for none
  pub anc : ℕ → ℕ → ℕ
  -- the live cells of a type
  pub count : ℕ → ℕ

-- the first of a list as number + 1; 0 for none
unfoldable pub next : List ℕ → ℕ
next [] = 0
next (x ∷ xs) = suc x

-- the map that a state's cells make
unfoldable pub map_with : Caps → State → Map
map_with caps s = record { caps = caps; at = s.at }

unfoldable pub state_of : Map → State
state_of m = record {
  at = m.at;
  chain = holds m;
  sib = λ h. cond (is_half m h) (sibling m h) 0;
  way = λ h. cond (is_half m h) (way m h) Lone;
  anc = λ d v. next (anchors m d v);
  count = λ t. length (cells_of m t);
}
