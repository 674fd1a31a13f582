-- Siblings: one cycle through the whole set; border means alone.
use mathlib.Core.Path.{◌≡◌, refl, sym, ap, ◌∙◌}
use mathlib.Core.Bool.{true}
use Prim.Native.Nat.{ℕ, zero, suc, ◌<◌}
use native.Mathlib.Omega.{arith}
use borrow.Author.Tests.{eq-eqb, eqb-true}
use lib.ListN.{length, get_or}
use Rattle.lists.specs.Lists.{has, same_set, after, steps}
use Rattle.lists.proofs.Members.{has_at}
use Rattle.lists.proofs.Cyclic.{steps_from, steps_back, steps_first, from_size, after_has, alone_after, after_alone}
use Rattle.map.specs.Cells.{Map}
use Rattle.map.specs.Siblings.{Half, marks_of, siblings, cycle, sibling, walk, border}
use Rattle.laws.proofs.Sharers.{sharers_has, has_sharers, siblings_ascend, siblings_self, siblings_same, siblings_live}

module _ (m : Map) where
  sibling_after : (h k : ℕ) → has k (siblings m h) ≡ true → sibling m k ≡ after k (siblings m h)
  unfolding sibling
  sibling_after h k e = ap (after k) (siblings_same m h k e)

  -- a sibling is a live half-facet of the same set
  pub sibling_has : (h : ℕ) → Half m h → has (sibling m h) (siblings m h) ≡ true
  unfolding sibling
  sibling_has h x = after_has (siblings m h) (siblings_ascend m h) h (siblings_self m h x)

  pub sibling_set : (h : ℕ) → Half m h → same_set (marks_of m h) (marks_of m (sibling m h)) ≡ true
  unfolding siblings
  sibling_set h x = (sharers_has m (marks_of m h) (sibling m h) (sibling_has h x)).1

  pub sibling_live : (h : ℕ) → Half m h → Half m (sibling m h)
  sibling_live h x = siblings_live m h (sibling m h) (sibling_has h x)

  -- steps stay in the set
  pub walk_has : (h : ℕ) → Half m h → (n : ℕ) → has (walk m n h) (siblings m h) ≡ true
  unfolding walk steps
  walk_has h x zero = siblings_self m h x
  walk_has h x (suc n) =
      let e : has (walk m n h) (siblings m h) ≡ true = walk_has h x n in
      rw (siblings_same m h (walk m n h) e) at (sibling_has (walk m n h) (siblings_live m h (walk m n h) e))

  walk_steps : (h : ℕ) → Half m h → (n : ℕ) → walk m n h ≡ steps (λ k. after k (siblings m h)) n h
  unfolding walk steps
  walk_steps h x zero = refl
  walk_steps h x (suc n) =
      sibling_after h (walk m n h) (walk_has h x n) ∙ ap (λ (k : ℕ). after k (siblings m h)) (walk_steps h x n)

  module _ (h : ℕ) (x : Half m h) where
    -- "whole cycle from a half-facet (that one first, then in cycle order)": the k-th of it is k steps away
    pub cycle_walk : (k : ℕ) → k < length (siblings m h) → walk m k h ≡ get_or (cycle m h) k 0
    unfolding cycle
    cycle_walk k less = walk_steps h x k ∙ steps_from (siblings m h) (siblings_ascend m h) h (siblings_self m h x) k less

    pub cycle_size : length (cycle m h) ≡ length (siblings m h)
    unfolding cycle
    cycle_size = from_size (siblings m h) (siblings_ascend m h) h (siblings_self m h x)

    -- "it first returns to its start after exactly as many steps as the set has half-facets"
    pub walk_returns : walk m (length (siblings m h)) h ≡ h
    walk_returns = walk_steps h x (length (siblings m h)) ∙ steps_back (siblings m h) (siblings_ascend m h) h (siblings_self m h x)

    pub walk_not_before : (k : ℕ) → 0 < k → k < length (siblings m h) → walk m k h ≡ h → ⊥
    walk_not_before k more less back =
        steps_first (siblings m h) (siblings_ascend m h) h (siblings_self m h x) k more less (sym (walk_steps h x k) ∙ back)

    -- border means alone: no other live half-facet has its set, and it is its own sibling
    pub border_alone : border m h ≡ true → (k : ℕ) → Half m k → same_set (marks_of m h) (marks_of m k) ≡ true → k ≡ h
    unfolding border siblings
    border_alone b k y e =
        let one : length (siblings m h) ≡ 1 = eqb-true (length (siblings m h)) 1 b in
        let p = has_at k (siblings m h) (has_sharers m (marks_of m h) k y e) in
        let q = has_at h (siblings m h) (siblings_self m h x) in
        let same : p.0 ≡ q.0 = omega (arith, p.1, q.1) in
        sym p.2 ∙ (ap (λ (i : ℕ). get_or (siblings m h) i 0) same ∙ q.2)

    pub border_self : border m h ≡ true → sibling m h ≡ h
    unfolding border sibling
    border_self b = alone_after (siblings m h) (siblings_ascend m h) h (siblings_self m h x) (eqb-true (length (siblings m h)) 1 b)

    pub self_border : sibling m h ≡ h → border m h ≡ true
    unfolding border sibling
    self_border e = eq-eqb (length (siblings m h)) 1 (after_alone (siblings m h) (siblings_ascend m h) h (siblings_self m h x) e)

    pub alone_border : ((k : ℕ) → Half m k → same_set (marks_of m h) (marks_of m k) ≡ true → k ≡ h) → border m h ≡ true
    alone_border f = self_border (f (sibling m h) (sibling_live h x) (sibling_set h x))
