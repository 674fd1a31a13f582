-- A test of all numbers below n, for rules that are computed over a whole table.
use mathlib.Core.Path.{◌≡◌, ap, ◌∙◌}
use mathlib.Core.Bool.{Bool, true, ◌&&◌}
use mathlib.Core.Logic.{⊎_elim}
use Prim.Native.Nat.{ℕ, zero, suc, ◌<◌}
use native.Mathlib.Nat.{not-suc-le-zero, eq-or-lt_of_le}
use native.Mathlib.Omega.{arith}
use Rattle.lists.proofs.Bools.{and_left, and_right}

unfoldable pub all_below : ℕ → (ℕ → Bool) → Bool
all_below zero p = true
all_below (suc n) p = p n && all_below n p

pub below_at : (n : ℕ) (p : ℕ → Bool) → all_below n p ≡ true → (k : ℕ) → k < n → p k ≡ true
unfolding all_below
below_at zero p e k h = absurd (not-suc-le-zero h)
below_at (suc n) p e k h =
    ⊎_elim (λ (z : k ≡ n). ap p z ∙ and_left (p n) (all_below n p) e)
    (λ (l : k < n). below_at n p (and_right (p n) (all_below n p) e) k l)
    (eq-or-lt_of_le {n = k} {m = n} (omega arith))
