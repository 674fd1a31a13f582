-- The sharers of a set, and the siblings of a half-facet: none missing, none extra, ascending.
use mathlib.Core.Path.{◌≡◌, sym, ap}
use mathlib.Core.Bool.{Bool, true, ◌&&◌}
use mathlib.Core.List.{List}
use Prim.Native.Nat.{ℕ, ◌*◌}
use Rattle.lists.specs.Lists.{has, same_set}
use Rattle.lists.specs.Ascending.{Ascending}
use Rattle.lists.proofs.Bools.{and_left, and_right, and_both}
use Rattle.lists.proofs.Sets.{same_refl, same_test_of}
use Rattle.lists.proofs.Select.{select_in, select_out, select_same}
use Rattle.lists.proofs.Order.{select_ascends}
use Rattle.map.specs.Cells.{Map}
use Rattle.map.specs.Siblings.{is_half, Half, marks_of, sharers, siblings}

module _ (m : Map) where
  -- the sharers of a set: none missing, none extra, ascending
  pub sharers_has : (set : List ℕ) (k : ℕ) → has k (sharers m set) ≡ true → Half m k × (same_set set (marks_of m k) ≡ true)
  unfolding sharers
  sharers_has set k e =
      let r = select_out (λ k. is_half m k && same_set set (marks_of m k)) (8 * m.caps.cells) k e in (
        record { below = r.0; facet = and_left (is_half m k) (same_set set (marks_of m k)) r.1 },
        and_right (is_half m k) (same_set set (marks_of m k)) r.1,
      )

  pub has_sharers : (set : List ℕ) (k : ℕ) → Half m k → same_set set (marks_of m k) ≡ true → has k (sharers m set) ≡ true
  unfolding sharers
  has_sharers set k x e =
      select_in (λ k. is_half m k && same_set set (marks_of m k)) (8 * m.caps.cells) k x.below
      (and_both (is_half m k) (same_set set (marks_of m k)) x.facet e)

  pub sharers_ascend : (set : List ℕ) → Ascending (sharers m set)
  unfolding sharers
  sharers_ascend set = select_ascends (λ k. is_half m k && same_set set (marks_of m k)) (8 * m.caps.cells)

  -- equal sets have the same sharers
  pub sharers_same : (a b : List ℕ) → same_set a b ≡ true → sharers m a ≡ sharers m b
  unfolding sharers
  sharers_same a b e =
      select_same (λ k. is_half m k && same_set a (marks_of m k)) (λ k. is_half m k && same_set b (marks_of m k)) (8 * m.caps.cells)
      (λ k h. ap (λ (t : Bool). is_half m k && t) (same_test_of a b (marks_of m k) e))

  pub siblings_ascend : (h : ℕ) → Ascending (siblings m h)
  unfolding siblings
  siblings_ascend h = sharers_ascend (marks_of m h)

  -- a live half-facet is among its siblings, and they are its siblings' siblings
  pub siblings_self : (h : ℕ) → Half m h → has h (siblings m h) ≡ true
  unfolding siblings
  siblings_self h x = has_sharers (marks_of m h) h x (same_refl (marks_of m h))

  pub siblings_same : (h k : ℕ) → has k (siblings m h) ≡ true → siblings m k ≡ siblings m h
  unfolding siblings
  siblings_same h k e = sym (sharers_same (marks_of m h) (marks_of m k) (sharers_has (marks_of m h) k e).1)

  pub siblings_live : (h k : ℕ) → has k (siblings m h) ≡ true → Half m k
  unfolding siblings
  siblings_live h k e = (sharers_has (marks_of m h) k e).0
