-- The table as the code holds it: for each type its facets, each as the count of its corners and their places, padded
-- with 0 to six facets of four corners.
use Rattle.std.specs.Prelude.{cond, ◌&&◌, List, [], ◌∷◌, ◌++◌, map, ℕ, ◌-◌, ltb, get_or, length, replicate}
use Rattle.shapes.specs.Shapes.{Shape, shapes}
use Rattle.shapes.specs.Sizes.{most_facets, most_corners, columns, codes}

-- the list, filled up with the padding to n
unfoldable pub padded : {A : Type 0} → ℕ → A → List A → List A
padded n fill l = l ++ replicate (n - length l) fill

unfoldable pub facet_row : List ℕ → List ℕ
facet_row ps = length ps ∷ padded most_corners 0 ps

unfoldable pub type_row : Shape → List (List ℕ)
type_row s = padded most_facets (facet_row []) (map facet_row s.facets)

unfoldable pub table : List (List (List ℕ))
table = map type_row shapes

-- what such a table holds at a type, a facet and a column; 0 outside
unfoldable pub entry : List (List (List ℕ)) → ℕ → ℕ → ℕ → ℕ
entry rows t f k = cond (ltb t codes && ltb f most_facets && ltb k columns) (get_or (get_or (get_or rows t []) f []) k 0) 0
