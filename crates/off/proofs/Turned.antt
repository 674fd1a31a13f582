-- A signed number and its digits, as the code casts it.
use mathlib.Core.Path.{◌≡◌, refl, sym, ap, subst, ◌∙◌}
use mathlib.Core.Bool.{true, false}
use mathlib.Core.List.{List, [], ◌∷◌}
use Prim.Native.Nat.{ℕ, zero, suc, ◌+◌}
use native.Mathlib.Nat.{not-suc-le-zero}
use native.Mathlib.Omega.{arith}
use borrow.Author.Tests.{ltb-true}
use lib.Dec.{T}
use lib.ListN.{length}
use lib.IntN.{ℤ, pos, negsuc, neg_ℤ, nat_abs, ◌-ℤ◌, +ℤ_idl}
use lib.Signed.{lt_z, non_neg}
use mir.Syntax.{w16, w32}
use mir.Val.{Fits, SFits, to_z, of_z}
use mir.ValLaws.{to_z-of_z}
use Rattle.lists.proofs.Bools.{clash}
use Rattle.frames.specs.Forms.{Appended}
use Rattle.frames.proofs.Append.{append_more, append_same}
use Rattle.off.specs.Writing.{digits_of, coordinate_text}

-- zero less a number, through 32 bits
abbrev pub turn : ℤ → ℤ
turn z = to_z w32 (of_z w32 (pos 0 -ℤ to_z w32 (of_z w32 (to_z w16 (of_z w16 z)))))

below_casts : (z : ℤ) → SFits w16 z → lt_z z (pos 0) ≡ true → T (non_neg (neg_ℤ z)) × Fits w32 (nat_abs (neg_ℤ z))
below_casts (pos n) f e = absurd (not-suc-le-zero (ltb-true n 0 e))
below_casts (negsuc n) f e = (tt, record { fits = omega (arith, f.sfits) })

above_casts : (z : ℤ) → SFits w16 z → lt_z z (pos 0) ≡ false → T (non_neg z) × Fits w32 (nat_abs z)
above_casts (pos n) f e = (tt, record { fits = omega (arith, f.sfits) })
above_casts (negsuc n) f e = absurd (clash refl e)

below_text : (z : ℤ) → lt_z z (pos 0) ≡ true → 45 ∷ digits_of (nat_abs (neg_ℤ z)) ≡ coordinate_text z
unfolding coordinate_text
below_text (pos n) e = absurd (not-suc-le-zero (ltb-true n 0 e))
below_text (negsuc n) e = refl

above_text : (z : ℤ) → lt_z z (pos 0) ≡ false → digits_of (nat_abs z) ≡ coordinate_text z
unfolding coordinate_text
above_text (pos n) e = refl
above_text (negsuc n) e = absurd (clash refl e)

negative_fits : (z : ℤ) → SFits w16 z → SFits w32 (neg_ℤ z)
negative_fits (pos zero) f = record { sfits = omega arith }
negative_fits (pos (suc n)) f = record { sfits = omega (arith, f.sfits) }
negative_fits (negsuc n) f = record { sfits = omega (arith, f.sfits) }

wider : (z : ℤ) → SFits w16 z → SFits w32 z
wider (pos n) f = record { sfits = omega (arith, f.sfits) }
wider (negsuc n) f = record { sfits = omega (arith, f.sfits) }

module _ (z : ℤ) (f : SFits w16 z) where
  back : to_z w16 (of_z w16 z) ≡ z
  back = to_z-of_z w16 z f

  pub wide_fits : SFits w32 (to_z w16 (of_z w16 z))
  wide_fits = subst (SFits w32) (sym back) (wider z f)

  turned : pos 0 -ℤ to_z w32 (of_z w32 (to_z w16 (of_z w16 z))) ≡ neg_ℤ z
  turned = ap (λ (x : ℤ). pos 0 -ℤ x) (to_z-of_z w32 (to_z w16 (of_z w16 z)) wide_fits ∙ back) ∙ +ℤ_idl (neg_ℤ z)

  pub turned_fits : SFits w32 (pos 0 -ℤ to_z w32 (of_z w32 (to_z w16 (of_z w16 z))))
  turned_fits = subst (SFits w32) (sym turned) (negative_fits z f)

  turned_back : turn z ≡ neg_ℤ z
  turned_back = to_z-of_z w32 (pos 0 -ℤ to_z w32 (of_z w32 (to_z w16 (of_z w16 z)))) turned_fits ∙ turned

  module _ (h : lt_z (to_z w16 (of_z w16 z)) (pos 0) ≡ true) where
    below : lt_z z (pos 0) ≡ true
    below = ap (λ (x : ℤ). lt_z x (pos 0)) (sym back) ∙ h

    pub turned_casts : T (non_neg (turn z)) × Fits w32 (nat_abs (turn z))
    turned_casts = subst (λ (x : ℤ). T (non_neg x) × Fits w32 (nat_abs x)) (sym turned_back) (below_casts z f below)

    pub below_length : 1 + length (digits_of (nat_abs (turn z))) ≡ length (coordinate_text z)
    below_length = omega (arith, ap length (ap (λ (x : ℤ). 45 ∷ digits_of (nat_abs x)) turned_back ∙ below_text z below))

    pub below_written : {o o' o'' : List ℕ} {at p q : ℕ} → Appended (45 ∷ []) o at p o' → Appended (digits_of (nat_abs (turn z))) o' p q o''
        → Appended (coordinate_text z) o at q o''
    below_written a b =
        append_same (ap (λ (x : ℤ). 45 ∷ digits_of (nat_abs x)) turned_back ∙ below_text z below) (append_more (45 ∷ []) (digits_of (nat_abs (turn z))) a b)

  module _ (h : lt_z (to_z w16 (of_z w16 z)) (pos 0) ≡ false) where
    above : lt_z z (pos 0) ≡ false
    above = ap (λ (x : ℤ). lt_z x (pos 0)) (sym back) ∙ h

    pub plain_casts : T (non_neg (to_z w16 (of_z w16 z))) × Fits w32 (nat_abs (to_z w16 (of_z w16 z)))
    plain_casts = subst (λ (x : ℤ). T (non_neg x) × Fits w32 (nat_abs x)) (sym back) (above_casts z f above)

    pub above_length : length (digits_of (nat_abs (to_z w16 (of_z w16 z)))) ≡ length (coordinate_text z)
    above_length = ap length (ap (λ (x : ℤ). digits_of (nat_abs x)) back ∙ above_text z above)

    pub above_written : {o o' : List ℕ} {at p : ℕ} → Appended (digits_of (nat_abs (to_z w16 (of_z w16 z)))) o at p o' → Appended (coordinate_text z) o at p o'
    above_written a = append_same (ap (λ (x : ℤ). digits_of (nat_abs x)) back ∙ above_text z above) a
