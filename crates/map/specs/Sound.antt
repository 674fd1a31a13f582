-- What the accepted edits keep true of every map.
use Rattle.std.specs.Prelude.{◌≡◌, true, false, ◌&&◌, List, ℕ, ◌/◌, ◌<◌, ◌≤◌, eqb, length}
use Rattle.lists.specs.Lists.{any, select, repeats, same_set}
use Rattle.shapes.specs.Shapes.{shape}
use Rattle.map.specs.Cells.{Map, no_cell, live, dimension_at, holds, facets_at}
use Rattle.map.specs.Siblings.{Half, siblings}
use Rattle.map.specs.Stars.{holders}
use Rattle.numbers.specs.Sizes.{most_around}
use Rattle.numbers.specs.Editions.{second_edition}

-- every cell has as many marks as its type says
pub record Fitting (m : Map) : Type 0 where
  pub count : (c : ℕ) → length (m.at c).marks ≡ (shape (m.at c).code).marks

pub record Sound (m : Map) : Type 0 where
  -- live numbers are below the capacity, and under the others stands no cell
  pub below : (c : ℕ) → live m c ≡ true → c < m.caps.cells
  pub dead : (c : ℕ) → live m c ≡ false → m.at c ≡ no_cell
  -- each live cell has a type of the table, as many marks as the type says, all below the capacity, none twice
  pub typed : (c : ℕ) → live m c ≡ true → 0 < dimension_at m c
  pub fitting : (c : ℕ) → length (m.at c).marks ≡ (shape (m.at c).code).marks
  pub inside : (v c : ℕ) → holds m v c ≡ true → v < m.caps.marks
  pub distinct : (c : ℕ) → repeats (m.at c).marks ≡ false
  -- no two live cells of one type have the same set of marks
  pub alone : (a b : ℕ) → live m a ≡ true → (m.at a).code ≡ (m.at b).code → same_set (m.at a).marks (m.at b).marks ≡ true → a ≡ b
  -- "A mark may stand in at most 128 live cells, all dimensions together."
  pub few : (v : ℕ) → length (holders m v) ≤ most_around

-- the solids on a face, ascending: a face is given by its set of marks
unfoldable pub solids_on : Map → List ℕ → List ℕ
solids_on m face = select (λ c. eqb (dimension_at m c) 3 && any (same_set face) (facets_at m c)) m.caps.cells

-- "a face may lie between two solids at most", under edition 2
pub record TwoSolids (m : Map) : Type 0 where
  pub most : m.caps.edition ≡ second_edition → (h : ℕ) → Half m h → dimension_at m (h / 8) ≡ 3 → length (siblings m h) ≤ 2
