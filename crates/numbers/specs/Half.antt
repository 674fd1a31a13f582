-- "Half-facet number = 8 × cell + local facet."
use Rattle.std.specs.Prelude.{ℕ, ◌+◌, ◌*◌, ◌%◌}
use Rattle.numbers.specs.Sizes.{past_cells}

unfoldable pub half_of : ℕ → ℕ → ℕ
half_of c f = 8 * c + f

-- any number made one that a cell may have; it is kept where it is one
abbrev pub cut : ℕ → ℕ
cut c = c % past_cells
