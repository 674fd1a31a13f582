-- Half-facets, and those with one set of marks.
use Rattle.std.specs.Prelude.{◌≡◌, Bool, true, ◌&&◌, List, [], ℕ, ◌*◌, ◌/◌, ◌%◌, ◌<◌, eqb, ltb, get_or, length}
use Rattle.lists.specs.Lists.{same_set, select, after, from, steps}
use Rattle.map.specs.Cells.{Map, facets_at}

-- the number is that of a facet of a live cell: "Half-facet number = 8 × cell + local facet"
unfoldable pub is_half : Map → ℕ → Bool
is_half m h = ltb (h % 8) (length (facets_at m (h / 8)))

-- a live half-facet
pub record Half (m : Map) (h : ℕ) : Type 0 where
  pub below : h < 8 * m.caps.cells
  pub facet : is_half m h ≡ true

-- the marks of a half-facet
unfoldable pub marks_of : Map → ℕ → List ℕ
marks_of m h = get_or (facets_at m (h / 8)) (h % 8) []

-- the live half-facets with this set of marks, ascending
unfoldable pub sharers : Map → List ℕ → List ℕ
sharers m set = select (λ k. is_half m k && same_set set (marks_of m k)) (8 * m.caps.cells)

-- "Siblings: live half-facets with equal sets of marks, whatever their order."
unfoldable pub siblings : Map → ℕ → List ℕ
siblings m h = sharers m (marks_of m h)

-- "whole cycle from a half-facet (that one first, then in cycle order)"
unfoldable pub cycle : Map → ℕ → List ℕ
cycle m h = from h (siblings m h)

-- "In ascending number, each maps to the next and the last to the first."
unfoldable pub sibling : Map → ℕ → ℕ
sibling m h = after h (siblings m h)

-- a walker over one sibling cycle, after n steps
unfoldable pub walk : Map → ℕ → ℕ → ℕ
walk m n h = steps (sibling m) n h

-- "Border: a half-facet alone in its set."
unfoldable pub border : Map → ℕ → Bool
border m h = eqb (length (siblings m h)) 1
