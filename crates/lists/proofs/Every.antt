-- All numbers below a bound pass: what that says of each, and a scan from below.
use mathlib.Core.Path.{◌≡◌, refl, sym, ap, ◌∙◌}
use mathlib.Core.Bool.{Bool, true, false}
use Prim.Native.Nat.{ℕ, zero, suc, ◌+◌, ◌<◌, ◌≤◌}
use mathlib.Core.Logic.{◌⊎◌, inl, inr}
use native.Mathlib.Nat.{not-suc-le-zero, eq-or-lt_of_le}
use native.Mathlib.Numerals.{add-one}
use native.Mathlib.Omega.{arith}
use Rattle.lists.specs.Lists.{every}
use Rattle.lists.proofs.Bools.{clash, not_true_false, and_left, and_right, and_both}

module _ (p : ℕ → Bool) where
  pub every_at : (n : ℕ) → every n p ≡ true → (k : ℕ) → k < n → p k ≡ true
  unfolding every
  every_at zero e k h = absurd (not-suc-le-zero h)
  every_at (suc n) e k h =
      go (eq-or-lt_of_le {n = k} {m = n} (omega arith)) (every_at n (and_left (every n p) (p n) e) k) (and_right (every n p) (p n) e)
    where
      go : (k ≡ n) ⊎ (k < n) → (k < n → p k ≡ true) → p n ≡ true → p k ≡ true
      go (inl z) f t = ap p z ∙ t
      go (inr l) f t = f l

  pub at_every : (n : ℕ) → ((k : ℕ) → k < n → p k ≡ true) → every n p ≡ true
  unfolding every
  at_every zero f = refl
  at_every (suc n) f = and_both (every n p) (p n) (at_every n (λ k h. f k (omega arith))) (f n (omega arith))

  -- a scan from below: it starts, goes on, stops or ends
  pub every_start : every 0 p ≡ true
  unfolding every
  every_start = refl

  pub every_more : (i : ℕ) → every i p ≡ true → p i ≡ true → every (i + 1) p ≡ true
  unfolding every
  every_more i e t = rw (add-one i) (and_both (every i p) (p i) e t)

  pub every_stop : (n i : ℕ) → i < n → p i ≡ false → false ≡ every n p
  every_stop n i h e = sym (not_true_false (every n p) (λ t. clash (every_at n t i h) e))

  pub every_end : (n i : ℕ) → every i p ≡ true → i ≤ n → n ≤ i → true ≡ every n p
  every_end n i e a b = let z : i ≡ n = omega arith in sym (rw z at e)
