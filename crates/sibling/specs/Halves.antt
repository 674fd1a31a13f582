-- The half-facets with one set of marks, cell by cell along a list of cells.
use Rattle.std.specs.Prelude.{List, map, ℕ, ◌%◌, ltb}
use Rattle.lists.specs.Lists.{keep}
use Rattle.numbers.specs.Half.{cut, half_of}
use Rattle.shapes.specs.Sizes.{no_facet}

-- for each cell in order its half-facet by the match; none where there is no match
unfoldable pub halves_of : (ℕ → ℕ) → List ℕ → List ℕ
halves_of match cells = map (λ c. half_of c (match c)) (keep (λ c. ltb (match c) no_facet) cells)

-- and as the code makes them on any memory: cells run below 65,536 and facets below 8, the rest is cut off
unfoldable pub halves_cut : (ℕ → ℕ) → List ℕ → List ℕ
halves_cut match cells = map (λ c. half_of (cut c) (match c % 8)) (keep (λ c. ltb (match c) no_facet) cells)
