-- Laws of lists and of tests that the laws of edits need.
use mathlib.Core.Path.{◌≡◌, refl, sym, ap, ◌∙◌}
use mathlib.Core.Bool.{Bool, true, false, cond, ◌||◌}
use mathlib.Core.List.{List, [], ◌∷◌, ◌++◌}
use mathlib.Core.Logic.{⊎_elim}
use Prim.Native.Nat.{ℕ, zero, suc, ◌<◌, ◌≤◌}
use native.Mathlib.Nat.{not-suc-le-zero, eq-or-lt_of_le}
use native.Mathlib.Omega.{arith}
use borrow.Author.Tests.{eq-eqb, eqb-true}
use lib.Dec.{eqb}
use lib.ListN.{length, length-append}
use Rattle.lists.specs.Lists.{has, any, select}
use Rattle.lists.proofs.Bools.{clash, same_test, not_true_false}
use Rattle.lists.proofs.Members.{any_has, has_any}
use Rattle.lists.proofs.Select.{select_same}

-- where not even one of two is true, neither is
pub neither : (a b : Bool) → a || b ≡ false → (a ≡ false) × (b ≡ false)
neither true b e = absurd (clash refl e)
neither false b e = (refl, e)

-- equal either way round
pub eqb_swap : (a b : ℕ) → eqb a b ≡ eqb b a
eqb_swap a b = same_test (eqb a b) (eqb b a) (λ e. eq-eqb b a (sym (eqb-true a b e))) (λ e. eq-eqb a b (sym (eqb-true b a e)))

-- none passes: so no number of the list does
pub none_has : (p : ℕ → Bool) (l : List ℕ) → any p l ≡ false → (v : ℕ) → has v l ≡ true → p v ≡ false
none_has p l e v h = not_true_false (p v) (λ t. clash (has_any p l v h t) e)

-- no number of the list passes: so none passes
pub has_none : (p : ℕ → Bool) (l : List ℕ) → ((v : ℕ) → has v l ≡ true → p v ≡ false) → any p l ≡ false
has_none p l f = not_true_false (any p l) (λ t. let r = any_has p l t in clash r.2 (f r.0 r.1))

-- none passes: none is selected
pub select_none : (p : ℕ → Bool) (n : ℕ) → ((k : ℕ) → p k ≡ false) → select p n ≡ []
unfolding select
select_none p zero f = refl
select_none p (suc n) f = rw (f n) (select_none p n f)

-- more pass: no fewer are selected
pub select_fewer : (p q : ℕ → Bool) (n : ℕ) → ((k : ℕ) → p k ≡ true → q k ≡ true) → length (select p n) ≤ length (select q n)
unfolding select
select_fewer p q zero f = omega arith
select_fewer p q (suc n) f = go (p n) (q n) (f n) (select_fewer p q n f)
  where
    go : (a b : Bool) → (a ≡ true → b ≡ true) → length (select p n) ≤ length (select q n)
        → length (cond a (select p n ++ (n ∷ [])) (select p n)) ≤ length (cond b (select q n ++ (n ∷ [])) (select q n))
    go true true g h = simp length-append (omega arith)
    go true false g h = absurd (clash (g refl) refl)
    go false true g h = simp length-append (omega arith)
    go false false g h = h

-- one more passes: one more is selected
pub select_more : (p q : ℕ → Bool) (c n : ℕ) → c < n → p c ≡ false → q c ≡ true → ((k : ℕ) → (c ≡ k → ⊥) → p k ≡ q k)
    → length (select q n) ≡ suc (length (select p n))
unfolding select
select_more p q c zero l e f same = absurd (not-suc-le-zero l)
select_more p q c (suc n) l e f same =
    ⊎_elim last (λ h. rw (same n (λ t. omega arith)) (earlier (q n) (select_more p q c n h e f same)))
    (eq-or-lt_of_le {n = c} {m = n} (omega arith))
  where
    last : c ≡ n → length (select q (suc n)) ≡ suc (length (select p (suc n)))
    last z =
        let rest : select p n ≡ select q n = select_same p q n (λ k h. same k (λ t. omega arith)) in
        rw (ap q (sym z) ∙ f, ap p (sym z) ∙ e, rest, length-append) (omega arith)

    earlier : (b : Bool) → length (select q n) ≡ suc (length (select p n))
        → length (cond b (select q n ++ (n ∷ [])) (select q n)) ≡ suc (length (cond b (select p n ++ (n ∷ [])) (select p n)))
    earlier true h = simp length-append (omega arith)
    earlier false h = h

-- none below n passes: none is selected
pub select_empty : (p : ℕ → Bool) (n : ℕ) → ((k : ℕ) → k < n → p k ≡ false) → select p n ≡ []
select_empty p n f = select_same p (λ _. false) n f ∙ select_none (λ _. false) n (λ k. refl)
