-- The sizes of the table of types.
use Rattle.std.specs.Prelude.{ℕ}

-- no type has more marks, or more facets
abbrev pub most_marks : ℕ
most_marks = 8

abbrev pub most_facets : ℕ
most_facets = 6

-- and no facet has this number
abbrev pub no_facet : ℕ
no_facet = 8

-- no facet has more corners
abbrev pub most_corners : ℕ
most_corners = 4

-- a facet's entry in the table: how many corners, then the corners
abbrev pub columns : ℕ
columns = 5

-- the codes of types lie below this
abbrev pub codes : ℕ
codes = 8

-- no type has a higher code, with all that the layout has room for
abbrev pub most_code : ℕ
most_code = 7
