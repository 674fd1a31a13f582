-- Every sibling is met on the way round, and each live half-facet is the sibling of exactly one.
use mathlib.Core.Path.{◌≡◌, refl, sym, ap, ◌∙◌}
use mathlib.Core.Bool.{true}
use Prim.Native.Nat.{ℕ, zero, suc, ◌-◌, ◌<◌}
use native.Mathlib.Omega.{arith}
use lib.ListN.{length}
use Rattle.lists.specs.Lists.{has, steps}
use Rattle.lists.proofs.Members.{has_at}
use Rattle.lists.proofs.Cyclic.{has_from}
use Rattle.map.specs.Cells.{Map}
use Rattle.map.specs.Siblings.{Half, siblings, cycle, sibling, walk}
use Rattle.laws.proofs.Sharers.{siblings_self, siblings_same, siblings_live}
use Rattle.laws.proofs.Cycles.{sibling_has, walk_has, cycle_walk, cycle_size, walk_returns}

module _ (m : Map) where
  cycle_has_sibling : (h k : ℕ) → has k (siblings m h) ≡ true → has k (cycle m h) ≡ true
  unfolding cycle
  cycle_has_sibling h k e = has_from h k (siblings m h) e

  module _ (h : ℕ) (x : Half m h) where
    -- every sibling is met on the way
    pub walk_meets : (k : ℕ) → has k (siblings m h) ≡ true → (n : ℕ) × (n < length (siblings m h)) × (walk m n h ≡ k)
    walk_meets k e =
        let r = has_at k (cycle m h) (cycle_has_sibling h k e) in
        let less : r.0 < length (siblings m h) = omega (arith, r.1, cycle_size m h x) in
        (r.0, less, cycle_walk m h x r.0 less ∙ r.2)

    -- one step before the return
    before : ℕ
    before = walk m (length (siblings m h) - 1) h

    before_step : sibling m before ≡ h
    unfolding before walk steps
    before_step =
        let size : 0 < length (siblings m h) = omega (arith, (has_at h (siblings m h) (siblings_self m h x)).1) in
        let e : suc (length (siblings m h) - 1) ≡ length (siblings m h) = omega arith in
        ap (λ (n : ℕ). walk m n h) e ∙ walk_returns m h x

    -- each live half-facet is the sibling of one
    pub sibling_onto : (g : ℕ) × Half m g × (sibling m g ≡ h)
    unfolding before
    sibling_onto = (before, siblings_live m h before (walk_has m h x (length (siblings m h) - 1)), before_step)

  walk_onward : (n h : ℕ) → walk m (suc n) h ≡ walk m n (sibling m h)
  unfolding walk steps
  walk_onward zero h = refl
  walk_onward (suc n) h = ap (sibling m) (walk_onward n h)

  -- no two live half-facets have one sibling
  pub sibling_one : (g h : ℕ) → Half m g → Half m h → sibling m g ≡ sibling m h → g ≡ h
  sibling_one g h x y e = sym (around g x n sizes) ∙ (ap (walk m n) e ∙ around h y n whole)
    where
      sets : siblings m g ≡ siblings m h
      sets = sym (siblings_same m g (sibling m g) (sibling_has m g x)) ∙ (ap (siblings m) e ∙ siblings_same m h (sibling m h) (sibling_has m h y))

      n : ℕ
      n = length (siblings m h) - 1

      around : (k : ℕ) (z : Half m k) (n : ℕ) → suc n ≡ length (siblings m k) → walk m n (sibling m k) ≡ k
      around k z n s = sym (walk_onward n k) ∙ (ap (λ (j : ℕ). walk m j k) s ∙ walk_returns m k z)

      whole : suc n ≡ length (siblings m h)
      whole = omega (arith, (has_at h (siblings m h) (siblings_self m h y)).1)

      sizes : suc n ≡ length (siblings m g)
      sizes = whole ∙ ap length (sym sets)
