-- The map of the live cells: what stands under each cell number. A list of live cells is read through `map_of` alone, so that its
-- order cannot matter.
use Rattle.std.specs.Prelude.{Bool, cond, not, ◌&&◌, List, [], ◌∷◌, map, ℕ, eqb, get_or}
use Rattle.lists.specs.Lists.{has, any, select, same_set}
use Rattle.numbers.specs.declared.Caps.{Caps}
use Rattle.shapes.specs.Shapes.{shape}

-- what a cell is: its type code, its licence and its marks
pub record Body : Type 0 where
  pub code : ℕ
  pub licence : ℕ
  pub marks : List ℕ

-- "Every cell record gains a licence number of 32 bits, given at insertion": the cell of a type code, a licence and marks
abbrev pub licensed_body : ℕ → ℕ → List ℕ → Body
licensed_body t licence marks = record { code = t; licence = licence; marks = marks }

-- the cell of a type code and marks: "Insert without one .. means 0."
abbrev pub body_of : ℕ → List ℕ → Body
body_of t marks = licensed_body t 0 marks

-- a live cell: its number and what it is
pub record Live : Type 0 where
  pub number : ℕ
  pub body : Body

-- under a number that is not live stands no cell
unfoldable pub no_cell : Body
no_cell = body_of 0 []

-- the map: the capacities, and what stands under each cell number
pub record Map : Type 0 where
  pub caps : Caps
  pub at : ℕ → Body

unfoldable pub body_in : List Live → ℕ → Body
body_in [] c = no_cell
body_in (x ∷ xs) c = cond (eqb x.number c) x.body (body_in xs c)

unfoldable pub map_of : Caps → List Live → Map
map_of caps list = record { caps = caps; at = body_in list }

-- a cell is live: a type stands under its number
unfoldable pub live : Map → ℕ → Bool
live m c = not (eqb (m.at c).code 0)

-- the cell under a number
abbrev pub live_at : Map → ℕ → Live
live_at m c = record { number = c; body = m.at c }

-- "the list of live cells"
unfoldable pub live_cells : Map → List Live
live_cells m = map (live_at m) (select (live m) m.caps.cells)

unfoldable pub dimension_at : Map → ℕ → ℕ
dimension_at m c = (shape (m.at c).code).dimension

-- the cell holds the mark
unfoldable pub holds : Map → ℕ → ℕ → Bool
holds m v c = has v (m.at c).marks

-- the marks of each facet, by the type's table
abbrev pub sets_of : ℕ → List ℕ → List (List ℕ)
sets_of t marks = map (map (λ (place : ℕ). get_or marks place 0)) (shape t).facets

unfoldable pub facets_at : Map → ℕ → List (List ℕ)
facets_at m c = sets_of (m.at c).code (m.at c).marks

-- two cells share a facet: one of each has the same set of marks
unfoldable pub shares : Map → ℕ → ℕ → Bool
shares m a b = any (λ (f : List ℕ). any (same_set f) (facets_at m b)) (facets_at m a)

-- "for each type its live cells, ascending"
unfoldable pub cells_of : Map → ℕ → List ℕ
cells_of m t = select (λ c. eqb (m.at c).code t) m.caps.cells

-- "Neighbours of a cell: the other live cells that share a facet with it, ascending, each once."
unfoldable pub neighbours : Map → ℕ → List ℕ
neighbours m c = select (λ k. not (eqb k c) && shares m c k) m.caps.cells
