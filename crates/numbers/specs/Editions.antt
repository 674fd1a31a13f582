-- "Format and build take an edition number, 1 or 2, kept in the head."
use Rattle.std.specs.Prelude.{Bool, ◌||◌, ℕ, eqb}

abbrev pub first_edition : ℕ
first_edition = 1

abbrev pub second_edition : ℕ
second_edition = 2

-- there is such an edition
unfoldable pub is_edition : ℕ → Bool
is_edition edition = eqb edition first_edition || eqb edition second_edition
