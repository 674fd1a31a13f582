-- The sum of metres, held exactly.
use mathlib.Core.Path.{◌≡◌, refl, sym, ap, ◌∙◌, subst}
use mathlib.Core.Bool.{Bool, true, false}
use Prim.Native.Nat.{ℕ, zero, suc, ◌+◌, ◌*◌, ◌^◌, ◌<◌, ◌≤◌}
use native.Mathlib.Nat.{le_trans, le_of_lt, le_refl, le_antisymm}
use native.Mathlib.Numerals.{add-one}
use native.Mathlib.Omega.{arith}
use lib.Dec.{lit≤}
use lib.IntN.{ℤ, pos, negsuc, ◌+ℤ◌}
use lib.Ieee.{Float, binary64, round, add, div, of_int, of_bits}
use mir.Syntax.{w16}
use mir.Val.{SFits, to_z, of_z}
use Rattle.metres.specs.Whole.{sum_of}
use Rattle.metres.proofs.Exact.{Near, near_add, near_div, metre, zero_is, settled}

near_zero : Near binary64 (of_bits binary64 0) (pos 0) 0
unfolding round
near_zero = record { sign = false; size = 0; float = zero_is; number = refl; bound = le_refl 0 }

few : (i : ℕ) → i ≤ 8 → i * 32768 ≤ 262144
few i h = omega arith

next_bound : (i : ℕ) → i * 32768 + 32768 ≡ suc i * 32768
next_bound i = omega arith

module _ (f : ℕ → ℤ) where
  -- the float holds the sum of the first i
  abbrev pub Held : Float → ℕ → Type 0
  Held s i = Near binary64 s (sum_of i f) (i * 32768)

  pub held_none : Held (of_bits binary64 0) 0
  unfolding sum_of
  held_none = near_zero

  pub held_more : (s : Float) (i : ℕ) → i < 8 → (x : ℤ) → x ≡ f i → SFits w16 x → Held s i → Held (add binary64 s (of_int binary64 (to_z w16 (of_z w16 x)))) (i + 1)
  unfolding sum_of
  held_more s i h x e fits n =
      let y = add binary64 s (of_int binary64 (to_z w16 (of_z w16 x))) in
      subst (λ (k : ℕ). Near binary64 y (sum_of k f) (k * 32768)) (sym (add-one i))
      (subst (Near binary64 y (sum_of (suc i) f)) (next_bound i)
      (near_add binary64 (le_trans (few i (le_of_lt h)) (lit≤ tt)) (lit≤ tt) n (subst (λ (z : ℤ). Near binary64 (of_int binary64 (to_z w16 (of_z w16 x))) z 32768) e (metre x fits))))

  pub held_all : (s : Float) (i n : ℕ) → i ≤ n → n ≤ i → n ≤ 8 → Held s i → add binary64 s (of_bits binary64 0) ≡ of_int binary64 (sum_of n f)
  held_all s i n h k e m =
      settled (le_trans (few i (le_trans h e)) (lit≤ tt)) m ∙ ap (λ (j : ℕ). of_int binary64 (sum_of j f)) (le_antisymm h k)

-- sums of equal numbers
pub sum_same : (n : ℕ) (f g : ℕ → ℤ) → ((i : ℕ) → i < n → f i ≡ g i) → sum_of n f ≡ sum_of n g
unfolding sum_of
sum_same zero f g h = refl
sum_same (suc n) f g h = λ j. sum_same n f g (λ i l. h i (omega arith)) j +ℤ h n (omega arith) j

-- an exact sum divided once is the float nearest to the quotient: `round` of the sign, the size and the divisor
abbrev pub below : ℤ → Bool
below (pos n) = false
below (negsuc n) = true

abbrev pub size : ℤ → ℕ
size (pos n) = n
size (negsuc n) = suc n

pub mean_nearest : (s : ℤ) (k : ℕ) → size s ≤ 2 ^ 53 → suc k ≤ 2 ^ 53
    → div binary64 (of_int binary64 s) (of_int binary64 (pos (suc k))) ≡ round binary64 (below s) (size s) (suc k)
unfolding of_int
mean_nearest (pos n) k h q = near_div binary64 k h q (record { sign = false; size = n; float = refl; number = refl; bound = le_refl n }) refl
mean_nearest (negsuc n) k h q = near_div binary64 k h q (record { sign = true; size = suc n; float = refl; number = refl; bound = le_refl (suc n) }) refl
