-- A number of the form with its sign, as the code casts it.
use mathlib.Core.Path.{◌≡◌, refl, sym, ap, subst, ◌∙◌}
use mathlib.Core.Bool.{Bool, true, false, cond}
use mathlib.Core.List.{List, [], ◌∷◌}
use Rattle.std.specs.Prelude.{Option, Some, None, Result, Ok, Err}
use Rattle.std.specs.Result.{OkIff, result_ok}
use Rattle.std.proofs.lemmas.Result.{OkIff-at_ok, Ok-from_Ok_iff}
use Prim.Native.Nat.{ℕ, zero, suc, ◌-◌, ◌<◌, ◌≤◌}
use native.Mathlib.Nat.{not-suc-le-zero}
use native.Mathlib.Decide.{dec_lt, dec_le}
use native.Mathlib.Omega.{arith}
use borrow.Author.Tests.{le-leb, lt-leb, eq-eqb, ne_eqb}
use lib.Dec.{eqb, leb}
use lib.ListN.{length, get_or, take, drop}
use lib.Seq.{take_all}
use lib.IntN.{ℤ, pos, neg_ℤ, ◌-ℤ◌, +ℤ_idl}
use mir.Syntax.{w16, w32}
use mir.Val.{SFits, to_z, of_z}
use mir.ValLaws.{to_z-of_z}
use Rattle.off.specs.Numbers.{Says, Is, Breaks, number_of, within, minus, coordinate_of}
use Rattle.off.specs.Forms.{said}
use Rattle.off.proofs.Values.{said_none, said_some, number_small}

minus16 : (v : ℕ) → v ≤ 32768 → SFits w16 (minus v)
unfolding minus
minus16 zero h = record { sfits = omega arith }
minus16 (suc n) h = record { sfits = omega arith }

minus_fits : (v : ℕ) → SFits w16 (minus v) → v ≤ 32768
unfolding minus
minus_fits zero f = omega arith
minus_fits (suc n) f = omega (arith, f.sfits)

plus16 : (v : ℕ) → v ≤ 32767 → SFits w16 (pos v)
plus16 v h = record { sfits = omega arith }

plus_fits : (v : ℕ) → SFits w16 (pos v) → v ≤ 32767
plus_fits v f = omega (arith, f.sfits)

minus32 : (v : ℕ) → v < 1000000 → SFits w32 (minus v)
unfolding minus
minus32 zero h = record { sfits = omega arith }
minus32 (suc n) h = record { sfits = omega arith }

-- a number of a word as 32 bits
module _ (w : List ℕ) (v : ℕ) (e : Some v ≡ said (number_of w)) where
  few : v < 1000000
  few = number_small w v (said_some (number_of w) v e)

  pub word_fits : SFits w32 (pos v)
  word_fits = record { sfits = omega (arith, few) }

  taken : pos 0 -ℤ to_z w32 v ≡ minus v
  unfolding minus
  taken = ap (λ (z : ℤ). pos 0 -ℤ z) (to_z-of_z w32 (pos v) word_fits) ∙ +ℤ_idl (neg_ℤ (pos v))

  pub taken_fits : SFits w32 (pos 0 -ℤ to_z w32 v)
  taken_fits = subst (SFits w32) (sym taken) (minus32 v few)

  pub taken_back : to_z w32 (of_z w32 (pos 0 -ℤ to_z w32 v)) ≡ minus v
  taken_back = to_z-of_z w32 (pos 0 -ℤ to_z w32 v) taken_fits ∙ taken

-- a number cast to 16 bits, where it fits them
module _ {E : Type 0} (t : Result ℤ E) (z : ℤ) (o : OkIff t (SFits w16 z) z) (r : Option ℤ) (k : r ≡ result_ok t) where
  cast_some : SFits w16 z → r ≡ Some z
  cast_some f = k ∙ ap result_ok (Ok-from_Ok_iff t (SFits w16 z) z o f)

  cast_none : (SFits w16 z → ⊥) → r ≡ None
  cast_none f = k ∙ go t refl
    where
      go : (u : Result ℤ E) → t ≡ u → result_ok u ≡ None
      go (Ok x) q = absurd (f (OkIff-at_ok t (SFits w16 z) z x o q).0)
      go (Err e) q = refl

  pub within_cast : (most : ℕ) (sign : ℕ → ℤ) (v : ℕ) → z ≡ sign v → (v ≤ most → SFits w16 (sign v)) → (SFits w16 (sign v) → v ≤ most)
      → r ≡ said (within most sign (Is v))
  unfolding within said
  within_cast most sign v e f g = go (dec_le v most)
    where
      go : Dec (v ≤ most) → r ≡ said (cond (leb v most) (Is (sign v)) Breaks)
      go (yes h) = cast_some (subst (SFits w16) (sym e) (f h)) ∙ rw (le-leb v most h, e)
      go (no h) =
          let less : most < v = omega arith in
          cast_none (λ s. absurd (h (g (subst (SFits w16) e s)))) ∙ rw (lt-leb v most less)

-- a word with a minus first, and one without
pub coordinate_empty : (w : List ℕ) → length w ≡ 0 → None ≡ said (coordinate_of w)
unfolding coordinate_of said
coordinate_empty [] e = refl
coordinate_empty (b ∷ w) e = absurd (never e)
  where
    never : suc (length w) ≡ 0 → ⊥
    never h = omega arith

minus_word : (w : List ℕ) → 0 < length w → get_or w 0 0 ≡ 45 → coordinate_of w ≡ within 32768 minus (number_of (take (length w - 1) (drop 1 w)))
unfolding coordinate_of
minus_word [] h e = absurd (not-suc-le-zero h)
minus_word (b ∷ w) h e = rw (take_all (suc (length w) - 1) w (omega arith), eq-eqb b 45 e)

plus_word : (w : List ℕ) → 0 < length w → (get_or w 0 0 ≡ 45 → ⊥) → coordinate_of w ≡ within 32767 pos (number_of w)
unfolding coordinate_of
plus_word [] h e = absurd (not-suc-le-zero h)
plus_word (b ∷ w) h e = rw (ne_eqb b 45 e)

within_none : (most : ℕ) (sign : ℕ → ℤ) → None ≡ said (within most sign Breaks)
unfolding within said
within_none most sign = refl

module _ (w : List ℕ) (some : 0 < length w) where
  module _ (first : get_or w 0 0 ≡ 45) where
    pub minus_breaks : None ≡ said (number_of (take (length w - 1) (drop 1 w))) → None ≡ said (coordinate_of w)
    minus_breaks e = rw (minus_word w some first, said_none _ e) (within_none 32768 minus)

    pub minus_is : {E : Type 0} (v : ℕ) → Some v ≡ said (number_of (take (length w - 1) (drop 1 w))) → (t : Result ℤ E) (z : ℤ) → OkIff t (SFits w16 z) z
        → z ≡ to_z w32 (of_z w32 (pos 0 -ℤ to_z w32 v)) → (r : Option ℤ) → r ≡ result_ok t → r ≡ said (coordinate_of w)
    minus_is v e t z o q r k =
        rw (minus_word w some first, said_some _ v e)
        (within_cast t z o r k 32768 minus v (q ∙ taken_back _ v e) (minus16 v) (minus_fits v))

  module _ (first : get_or w 0 0 ≡ 45 → ⊥) where
    pub plus_breaks : None ≡ said (number_of w) → None ≡ said (coordinate_of w)
    plus_breaks e = rw (plus_word w some first, said_none _ e) (within_none 32767 pos)

    pub plus_is : {E : Type 0} (v : ℕ) → Some v ≡ said (number_of w) → (t : Result ℤ E) → OkIff t (SFits w16 (pos v)) (pos v)
        → (r : Option ℤ) → r ≡ result_ok t → r ≡ said (coordinate_of w)
    plus_is v e t o r k =
        rw (plus_word w some first, said_some _ v e) (within_cast t (pos v) o r k 32767 pos v refl (plus16 v) (plus_fits v))

-- a coordinate of the form is a signed 16-bit number
within_fits : (most : ℕ) (sign : ℕ → ℤ) → ((n : ℕ) → n ≤ most → SFits w16 (sign n)) → (s : Says ℕ) (z : ℤ) → within most sign s ≡ Is z → SFits w16 z
unfolding within
within_fits most sign f Breaks z e = let o : ◌≡◌ {A = ℕ} 0 1 = cc in absurd (omega arith)
within_fits most sign f (Is n) z e = go (dec_lt most n)
  where
    go : Dec (most < n) → SFits w16 z
    go (yes h) = let q = rw (lt-leb n most h) at e in let o : ◌≡◌ {A = ℕ} 0 1 = cc in absurd (omega arith)
    go (no h) =
        let l : n ≤ most = omega arith in
        let q = rw (le-leb n most l) at e in
        let same : sign n ≡ z = cc in
        subst (SFits w16) same (f n l)

pub coordinate_fits : (w : List ℕ) (z : ℤ) → coordinate_of w ≡ Is z → SFits w16 z
unfolding coordinate_of
coordinate_fits [] z e = let o : ◌≡◌ {A = ℕ} 0 1 = cc in absurd (omega arith)
coordinate_fits (b ∷ w) z e = go (eqb b 45) refl
  where
    go : (t : Bool) → eqb b 45 ≡ t → SFits w16 z
    go true h = within_fits 32768 minus minus16 (number_of w) z (rw h at e)
    go false h = within_fits 32767 pos (λ n l. record { sfits = omega arith }) (number_of (b ∷ w)) z (rw h at e)
