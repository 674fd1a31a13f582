-- Which way the sibling runs: "lone (no other), same, opposite or neither".
use Rattle.std.specs.Prelude.{Bool, cond, List, [], ◌∷◌, ◌++◌, map, reverse, ℕ, ◌%◌, eqb, get_or, length, take, drop}
use Rattle.lists.specs.Lists.{any, same, list_of}
use Rattle.map.specs.declared.Way.{Way}
use Rattle.map.specs.declared.Way.TheVariants.{Lone, Same, Opposite, Neither}
use Rattle.map.specs.Cells.{Map}
use Rattle.map.specs.Siblings.{marks_of, sibling, cycle, border}

-- "one more byte (0 to 3 in that order)"
unfoldable pub way_number : Way → ℕ
way_number Lone = 0
way_number Same = 1
way_number Opposite = 2
way_number Neither = 3

-- the way of a number
unfoldable pub way_at : ℕ → Way
way_at n = get_or (Lone ∷ Same ∷ Opposite ∷ Neither ∷ []) n Neither

-- a list begun at its place n, what stood before it behind
unfoldable pub turned : List ℕ → ℕ → List ℕ
turned l n = drop n l ++ take n l

-- one list is a rotation of the other
unfoldable pub rotation : List ℕ → List ℕ → Bool
rotation a b = any (λ n. same a (turned b n)) (list_of (length b) (λ n. n))

unfoldable pub runs : Bool → Bool → Way
runs alike against = cond alike Same (cond against Opposite Neither)

-- of two facets with one set of marks, each given by its local number and its marks
unfoldable pub direction : ℕ → List ℕ → ℕ → List ℕ → Way
direction f a g b =
    -- "Bar ends are opposite if their places differ, otherwise same."
    cond (eqb (length a) 1) (cond (eqb f g) Same Opposite)
    -- "An edge is same if its mark lists are equal, opposite if reversed."
    (cond (eqb (length a) 2) (runs (same a b) (same a (reverse b)))
    -- "A face is same if one list is a rotation of the other, opposite if it is a rotation of the other reversed, and neither otherwise."
    (runs (rotation a b) (rotation a (reverse b))))

-- of two half-facets: a bar end's place is its local facet
unfoldable pub between : Map → ℕ → ℕ → Way
between m h k = direction (h % 8) (marks_of m h) (k % 8) (marks_of m k)

-- of a half-facet and its sibling
unfoldable pub way : Map → ℕ → Way
way m h = cond (border m h) Lone (between m h (sibling m h))

-- beside each half-facet of the cycle list the number of its own way
unfoldable pub cycle_ways : Map → ℕ → List ℕ
cycle_ways m h = map (λ k. way_number (way m k)) (cycle m h)
