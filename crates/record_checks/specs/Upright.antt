-- What memory that is laid out tells: all that a ready state keeps, save that two cells may be the same.
use Rattle.std.specs.Prelude.{◌≡◌, true, false, ℕ, ◌<◌, ◌≤◌, length}
use Rattle.lists.specs.Lists.{repeats}
use Rattle.shapes.specs.Shapes.{shape}
use Rattle.numbers.specs.declared.Caps.{Caps}
use Rattle.map.specs.Cells.{no_cell, live, dimension_at, holds}
use Rattle.map.specs.Stars.{holders}
use Rattle.picture.specs.State.{State, map_with}
use Rattle.numbers.specs.Sizes.{most_around}

pub record Upright (caps : Caps) (s : State) : Type 0 where
  pub chains : (v c : ℕ) → s.chain v c ≡ holds (map_with caps s) v c
  pub below : (c : ℕ) → live (map_with caps s) c ≡ true → c < caps.cells
  pub dead : (c : ℕ) → live (map_with caps s) c ≡ false → s.at c ≡ no_cell
  pub typed : (c : ℕ) → live (map_with caps s) c ≡ true → 0 < dimension_at (map_with caps s) c
  pub fitting : (c : ℕ) → length (s.at c).marks ≡ (shape (s.at c).code).marks
  pub inside : (v c : ℕ) → holds (map_with caps s) v c ≡ true → v < caps.marks
  pub distinct : (c : ℕ) → repeats (s.at c).marks ≡ false
  pub few : (v : ℕ) → length (holders (map_with caps s) v) ≤ most_around
