-- The half-facets of a sound map lie below the capacity.
use mathlib.Core.Path.{◌≡◌, ap}
use mathlib.Core.Bool.{true}
use mathlib.Core.List.{[], map}
use Prim.Native.Nat.{ℕ, ◌*◌, ◌/◌, ◌%◌, ◌<◌}
use native.Mathlib.Decide.{dec_lt}
use native.Mathlib.Omega.{arith}
use borrow.Author.Tests.{ltb-true}
use lib.ListN.{get_or, length}
use Rattle.lists.proofs.Bools.{not_true_false}
use Rattle.shapes.specs.Shapes.{no_shape, shapes, shape}
use Rattle.map.specs.Cells.{Body, Map, no_cell, live, facets_at}
use Rattle.map.specs.Siblings.{is_half, Half}
use Rattle.map.specs.Sound.{Sound}

-- under a number with no cell there is no facet
pub none_facets : (m : Map) (c : ℕ) → m.at c ≡ no_cell → facets_at m c ≡ []
unfolding facets_at no_cell shape shapes no_shape
none_facets m c e = ap (λ (b : Body). map (map (λ (place : ℕ). get_or b.marks place 0)) (shape b.code).facets) e

-- and no half-facet
pub no_half_lem : (m : Map) (h : ℕ) → is_half m h ≡ true → facets_at m (h / 8) ≡ [] → ⊥
unfolding is_half
no_half_lem m h e q = omega (arith, ltb-true (h % 8) (length (facets_at m (h / 8))) e, ap length q)

pub half_live : (m : Map) → Sound m → (h : ℕ) → is_half m h ≡ true → Half m h
half_live m s h e = record { below = go (dec_lt (h / 8) m.caps.cells); facet = e }
  where
    go : Dec (h / 8 < m.caps.cells) → h < 8 * m.caps.cells
    go (yes less) = omega arith
    go (no f) = absurd (none e (s.dead (h / 8) (not_true_false (live m (h / 8)) (λ l. f (s.below (h / 8) l)))))
      where
        none : is_half m h ≡ true → m.at (h / 8) ≡ no_cell → ⊥
        none half q = no_half_lem m h half (none_facets m (h / 8) q)
