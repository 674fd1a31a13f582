-- A set of cells, one byte for each number: 1 for a cell of the set.
use Rattle.std.specs.Prelude.{Bool, List, ℕ, eqb, get_or}

unfoldable pub in_set : List ℕ → ℕ → Bool
in_set cells c = eqb (get_or cells c 0) 1
