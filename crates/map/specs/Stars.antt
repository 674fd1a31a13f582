-- The cells around a mark.
use Rattle.std.specs.Prelude.{Bool, ◌&&◌, List, ℕ, ◌*◌, ◌/◌, eqb}
use Rattle.lists.specs.Lists.{any, has, same_set, select, keep, first}
use Rattle.map.specs.Cells.{Map, dimension_at, holds, facets_at}
use Rattle.map.specs.Siblings.{is_half, marks_of, border}
use Rattle.map.specs.Groups.{group_of}

-- the cells that hold a mark, of every dimension
unfoldable pub holders : Map → ℕ → List ℕ
holders m v = select (holds m v) m.caps.cells

-- "Star of a mark in dimension d: all live cells of that dimension that hold the mark, ascending, each once."
unfoldable pub star : Map → ℕ → ℕ → List ℕ
star m d v = select (λ c. eqb (dimension_at m c) d && holds m v c) m.caps.cells

-- "Link two cells of a star only if they share a facet that holds the mark."
unfoldable pub linked : Map → ℕ → ℕ → ℕ → Bool
linked m v a b = any (λ (f : List ℕ). has v f && any (same_set f) (facets_at m b)) (facets_at m a)

-- the group of a cell in a star
unfoldable pub group : Map → ℕ → ℕ → ℕ → List ℕ
group m d v c = group_of (linked m v) (star m d v) c

-- the half-facets of the cells of g that hold v, ascending
unfoldable pub halves_at : Map → ℕ → List ℕ → List ℕ
halves_at m v g = select (λ h. has (h / 8) g && (is_half m h && has v (marks_of m h))) (8 * m.caps.cells)

-- "Anchor of a group at mark v: the smallest border half-facet in the group that holds v; if there is none, the smallest
-- half-facet in it that holds v."
unfoldable pub anchor : Map → ℕ → List ℕ → ℕ
anchor m v g = first (first 0 (halves_at m v g)) (keep (border m) (halves_at m v g))

-- "Anchors are listed ascending, one for each group."
unfoldable pub anchors : Map → ℕ → ℕ → List ℕ
anchors m d v = select (λ h. has (h / 8) (star m d v) && eqb h (anchor m v (group m d v (h / 8)))) (8 * m.caps.cells)
