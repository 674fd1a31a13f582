-- "A mark may stand in at most 128 live cells": a star has no more cells, and no more anchors than cells.
use mathlib.Core.Path.{◌≡◌, refl, ap}
use mathlib.Core.Bool.{true, ◌&&◌}
use mathlib.Core.List.{List, [], ◌∷◌, map}
use mathlib.Core.Logic.{⊎_elim}
use Prim.Native.Nat.{ℕ, ◌/◌, ◌<◌, ◌≤◌}
use native.Mathlib.Omega.{arith}
use borrow.Author.Tests.{eq-eqb, eqb-true}
use lib.Dec.{eqb}
use lib.ListN.{length, length-map}
use Rattle.lists.specs.Lists.{has}
use Rattle.lists.specs.Ascending.{Ascending}
use Rattle.lists.proofs.Bools.{and_right, or_left, or_right, or_cases}
use Rattle.lists.proofs.Counts.{select_fewer}
use Rattle.lists.proofs.Order.{asc_none, asc_cons, asc_rest, asc_first}
use Rattle.map.specs.Cells.{Map, dimension_at, holds}
use Rattle.map.specs.Stars.{holders, star, group, anchors}
use Rattle.map.specs.Sound.{Sound}
use Rattle.laws.proofs.Anchors.{anchors_of, anchors_one, anchors_ascend}
use Rattle.listing.proofs.Least.{ascending_few}
use Rattle.numbers.specs.Sizes.{most_around}

-- the cells of half-facets
cells_in : List ℕ → List ℕ
cells_in l = map (λ (h : ℕ). h / 8) l

-- a cell of a list of half-facets is that of one of them
cell_of_lem : (l : List ℕ) (c : ℕ) → has c (cells_in l) ≡ true → (h : ℕ) × (has h l ≡ true) × (h / 8 ≡ c)
unfolding has cells_in
cell_of_lem [] c e = absurd (let z : ◌≡◌ {A = ℕ} 0 1 = cc in omega arith)
cell_of_lem (x ∷ xs) c e =
    ⊎_elim (λ (z : eqb (x / 8) c ≡ true). (x, or_left (eqb x x) (has x xs) (eq-eqb x x refl), eqb-true (x / 8) c z))
    (λ (z : has c (cells_in xs) ≡ true). let r = cell_of_lem xs c z in (r.0, or_right (eqb x r.0) (has r.0 xs) r.1, r.2))
    (or_cases (eqb (x / 8) c) (has c (cells_in xs)) e)

-- half-facets of different cells ascend with their cells
cells_ascend : (l : List ℕ) → Ascending l → ((h k : ℕ) → has h l ≡ true → has k l ≡ true → h / 8 ≡ k / 8 → h ≡ k) → Ascending (cells_in l)
unfolding has cells_in
cells_ascend [] a one = asc_none
cells_ascend (x ∷ xs) a one =
    asc_cons (x / 8) (cells_in xs) above
    (cells_ascend xs (asc_rest x xs a) (λ h k p q. one h k (or_right (eqb x h) (has h xs) p) (or_right (eqb x k) (has k xs) q)))
  where
    above : (c : ℕ) → has c (cells_in xs) ≡ true → x / 8 < c
    above c e =
        let r = cell_of_lem xs c e in
        let more : x < r.0 = asc_first x xs a r.0 r.1 in
        let ne : (x / 8 ≡ r.0 / 8) → ⊥ = λ z. omega (arith, one x r.0 (or_left (eqb x x) (has x xs) (eq-eqb x x refl)) (or_right (eqb x r.0) (has r.0 xs) r.1) z) in
        let is : r.0 / 8 ≡ c = r.2 in
        omega arith

module _ (m : Map) (s : Sound m) (d v : ℕ) where
  pub star_few : length (star m d v) ≤ most_around
  unfolding star holders
  star_few =
      omega (arith, s.few v, select_fewer (λ c. eqb (dimension_at m c) d && holds m v c) (holds m v) m.caps.cells (λ c e. and_right (eqb (dimension_at m c) d) (holds m v c) e))

  pub anchors_few : length (anchors m d v) ≤ most_around
  unfolding cells_in
  anchors_few =
      let fewer : length (cells_in (anchors m d v)) ≤ length (star m d v) =
      ascending_few (star m d v) (cells_in (anchors m d v))
      (cells_ascend (anchors m d v) (anchors_ascend m d v) (λ h k p q e. anchors_one m d v h k p q (ap (group m d v) e)))
      (λ c e. let r = cell_of_lem (anchors m d v) c e in rw (← r.2) (anchors_of m d v r.0 r.1).0) in
      omega (arith, star_few, length-map (anchors m d v) (λ (h : ℕ). h / 8))
