-- Two lists of marks held to each other place by place, the one begun at a place of it, forward or from the end.
use Rattle.std.specs.Prelude.{◌≡◌, Bool, cond, List, reverse, ℕ, ◌+◌, ◌-◌, ◌/◌, ◌%◌, eqb, ltb}
use Rattle.numbers.specs.declared.Caps.{Caps}
use Rattle.map.specs.declared.Way.{Way}
use Rattle.map.specs.declared.Way.TheVariants.{Lone}
use Rattle.map.specs.Ways.{direction}
use Rattle.shapes.specs.Table.{entry}
use Rattle.facet.specs.Facet.{set_in, facet_in}

-- the place k behind place n, behind the last the first; and the place as far from the end
unfoldable pub turned_place : ℕ → ℕ → ℕ → ℕ
turned_place size n k = cond (ltb k (size - n)) (n + k) (k - (size - n))

unfoldable pub end_place : ℕ → Bool → ℕ → ℕ
end_place size back k = cond back (size - 1 - k) k

-- a list, or it reversed
unfoldable pub heading : Bool → List ℕ → List ℕ
heading back l = cond back (reverse l) l

-- the way of two half-facets by the records of their cells; a half-facet beside itself is lone
unfoldable pub facing_in : List ℕ → Caps → List (List (List ℕ)) → ℕ → ℕ → Way
facing_in w caps rows h x =
    cond (eqb h x) Lone (direction (h % 8) (facet_in w caps rows (h / 8) (h % 8)) (x % 8) (facet_in w caps rows (x / 8) (x % 8)))

-- the way of two facets of a type on its marks, where both are edges
pub record Edges (rows : List (List (List ℕ))) (t f : ℕ) (marks : List ℕ) (u g : ℕ) (others : List ℕ) (r : Way) : Type 0 where
  pub runs : entry rows t f 0 ≡ 2 → entry rows u g 0 ≡ 2 → r ≡ direction f (set_in rows t f marks) g (set_in rows u g others)
