-- Words looked at one by one: all 0, or one that is not.
use mathlib.Core.Path.{◌≡◌, refl, sym, ap, ◌∙◌}
use mathlib.Core.Bool.{Bool, true, false}
use mathlib.Core.List.{List, [], ◌∷◌}
use mathlib.Core.Logic.{⊎_elim}
use Prim.Native.Nat.{ℕ, zero, suc, ◌+◌, ◌-◌, ◌<◌, ◌≤◌, min}
use native.Mathlib.Decide.{dec_lt}
use native.Mathlib.Nat.{eq-or-lt_of_le}
use native.Mathlib.Omega.{arith}
use borrow.Author.Tests.{eq-eqb, eqb-true}
use lib.Dec.{eqb}
use lib.ListN.{length, get_or, get_or-eq_default}
use Rattle.std.specs.List.{list_all}
use Rattle.lists.proofs.Bools.{clash, and_left, and_right}
use Rattle.words.specs.Words.{part_of}
use Rattle.words.proofs.Fits.{part_length, part_word}
use Rattle.journal_whole.specs.Checks.{Zeros}

module _ (j : List ℕ) (at i : ℕ) where
  -- one more
  pub zeros_more : ((k : ℕ) → k < i → get_or j (at + k) 0 ≡ 0) → (p v : ℕ) → p ≡ at + i → v ≡ get_or j p 0 → v ≡ 0 → (k : ℕ) → k < i + 1 → get_or j (at + k) 0 ≡ 0
  zeros_more before p v ep ev ez k h =
      ⊎_elim (λ z. ap (λ (x : ℕ). get_or j (at + x) 0) z ∙ (ap (λ (x : ℕ). get_or j x 0) (sym ep) ∙ (sym ev ∙ ez))) (λ less. before k less) (eq-or-lt_of_le {n = k} {m = i} (omega arith))

  module _ (n : ℕ) (before : (k : ℕ) → k < i → get_or j (at + k) 0 ≡ 0) where
    pub zeros_all : n ≤ i → Zeros j at n true
    zeros_all h = record { yes = λ q k less. before k (omega arith); no = λ q all. clash refl q }

    -- past the end is 0
    pub zeros_out : (p : ℕ) → p ≡ at + i → length j ≤ p → Zeros j at n true
    zeros_out p ep h = record { yes = λ q k less. go k (dec_lt k i); no = λ q all. clash refl q }
      where
        go : (k : ℕ) → Dec (k < i) → get_or j (at + k) 0 ≡ 0
        go k (yes less) = before k less
        go k (no f) = get_or-eq_default j 0 {n = at + k} (omega arith)

    pub zeros_some : i < n → (p v : ℕ) → p ≡ at + i → v ≡ get_or j p 0 → (v ≡ 0 → ⊥) → Zeros j at n false
    zeros_some less p v ep ev f = record { yes = λ q. absurd (clash q refl); no = λ q all. f (ev ∙ (ap (λ (x : ℕ). get_or j x 0) ep ∙ all i less)) }

-- a test of each word of a part that lies in memory
all_zero : (l : List ℕ) → list_all (λ x. eqb x 0) l ≡ true → (k : ℕ) → k < length l → get_or l k 0 ≡ 0
all_zero [] e k h = absurd (omega arith)
all_zero (x ∷ xs) e zero h = eqb-true x 0 (and_left (eqb x 0) (list_all (λ x. eqb x 0) xs) e)
all_zero (x ∷ xs) e (suc k) h = all_zero xs (and_right (eqb x 0) (list_all (λ x. eqb x 0) xs) e) k (omega arith)

zero_all : (l : List ℕ) → ((k : ℕ) → k < length l → get_or l k 0 ≡ 0) → list_all (λ x. eqb x 0) l ≡ true
zero_all [] f = refl
zero_all (x ∷ xs) f = rw (eq-eqb x 0 (f 0 (omega arith))) (zero_all xs (λ k h. f (suc k) (omega arith)))

module _ (j : List ℕ) (at n start within : ℕ) (from : start ≡ min at (length j)) (few : within ≡ min n (length j - start)) where
  pub zeros_part : (l : List ℕ) → l ≡ part_of j start within → (r : Bool) → r ≡ list_all (λ x. eqb x 0) l → Zeros j at n r
  zeros_part l part r e = record {
    yes = λ q k less. go (sym e ∙ q) k less (dec_lt k within);
    no = λ q all. clash (e ∙ zero_all l (λ k h. word k (omega (arith, size)) ∙ all k (omega (arith, size)))) q;
  }
    where
      size : length l ≡ within
      size = ap length part ∙ part_length j start within (omega arith)

      word : (k : ℕ) → k < within → get_or l k 0 ≡ get_or j (at + k) 0
      word k h =
          let here : start + k ≡ at + k = omega arith in
          ap (λ (x : List ℕ). get_or x k 0) part ∙ (part_word j start within k (omega arith) h ∙ ap (λ (x : ℕ). get_or j x 0) here)

      go : list_all (λ x. eqb x 0) l ≡ true → (k : ℕ) → k < n → Dec (k < within) → get_or j (at + k) 0 ≡ 0
      go q k less (yes h) = sym (word k h) ∙ all_zero l q k (omega (arith, size))
      go q k less (no f) = get_or-eq_default j 0 {n = at + k} (omega arith)
