-- A surface whose cell numbers have gaps, written as OFF and read: "faces cells 0, 1, 2 in file order".
use Rattle.std.specs.Prelude.{◌≡◌, List, map, ◌++◌, ℕ, ◌*◌, ◌<◌, length, get_or, take, drop, ℤ, Result, Ok}
use Rattle.numbers.specs.Room.{room}
use Rattle.numbers.specs.Sizes.{capacities}
use Rattle.words.specs.Words.{Only}
use Rattle.map.specs.Cells.{Body, body_of, Live, Map, no_cell, live_cells}
use Rattle.picture.specs.Picture.{Wf}
use Rattle.surfaces.specs.declared.NotRead.{NotRead}

-- the cell without its licence, for which OFF has no place: "for a face read from OFF, means 0"
abbrev pub unlicensed : Body → Body
unlicensed x = body_of x.code x.marks

-- the live cells in their order under the numbers 0, 1, 2 and so on, with their types and marks and licence 0: the capacity of marks is the same,
-- that of cells is the count of live cells, and "request 7's read mean[s] edition 1", whatever the edition was
unfoldable pub renumbered : Map → Map
renumbered m = record {
  caps = capacities m.caps.marks (length (live_cells m));
  at = λ k. get_or (map (λ (x : Live). unlicensed x.body) (live_cells m)) k no_cell;
}

-- what a read of the written text answers and leaves
pub record ReadRenumbered (m : Map) (written : List ℤ) (w : List ℕ) (positions : List ℤ) (r : Result (Unit {0}) NotRead) (w' : List ℕ) (positions' : List ℤ)
    : Type 0 where
  pub answered : r ≡ Ok tt
  pub wf : Wf w' (renumbered m)
  pub inside : Only (λ i. i < room m.caps.marks (length (live_cells m))) w w'
  -- three numbers a mark as they were written; behind them the positions stay
  pub metres : positions' ≡ take (3 * m.caps.marks) written ++ drop (3 * m.caps.marks) positions
