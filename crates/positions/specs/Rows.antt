-- The rows of checks of the calls with positions.
use Rattle.std.specs.Prelude.{List, [], ◌∷◌, ◌++◌, ℕ, ◌*◌, ltb}
use Rattle.map.specs.Cells.{Map}
use Rattle.map.specs.Answers.{Check, ◌when◌, cell_checks}

-- bars, triangles, quads and tetrahedra have a measure
abbrev pub most_measured : ℕ
most_measured = 4

-- "16 for a position list shorter than three numbers per mark"
unfoldable pub list_check : Map → ℕ → List Check
list_check m numbers = (16 when ltb numbers (3 * m.caps.marks)) ∷ []

-- of the corners: 3, 5, 16
unfoldable pub corner_checks : Map → ℕ → ℕ → List Check
corner_checks m c numbers = cell_checks m c ++ list_check m numbers

-- of the measure: "after 3 and 5, 6 for a solid without a measure, then 16"
unfoldable pub measure_checks : Map → ℕ → ℕ → List Check
measure_checks m c numbers = cell_checks m c ++ ((6 when ltb most_measured (m.at c).code) ∷ list_check m numbers)
