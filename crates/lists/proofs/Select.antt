-- What is selected: ascending, each once, none missing, none extra.
use mathlib.Core.Path.{◌≡◌, refl, sym, ap, ◌∙◌}
use mathlib.Core.Bool.{Bool, true, false, cond, ◌||◌}
use mathlib.Core.List.{[], ◌∷◌, ◌++◌}
use mathlib.Core.Logic.{◌⊎◌, inl, inr}
use Prim.Native.Nat.{ℕ, zero, suc, ◌<◌, ◌≤◌}
use native.Mathlib.Nat.{not-suc-le-zero, eq-or-lt_of_le}
use native.Mathlib.Decide.{dec_lt}
use native.Mathlib.Omega.{arith}
use borrow.Author.Tests.{eq-eqb, ne_eqb}
use lib.ListN.{length, length-append}
use Rattle.lists.specs.Lists.{has, select}
use Rattle.lists.proofs.Bools.{clash}
use Rattle.lists.proofs.Members.{has_append, has_one}

or_false : (b : Bool) → b || false ≡ b
or_false true = refl
or_false false = refl

pub select_above : (p : ℕ → Bool) (n k : ℕ) → n ≤ k → has k (select p n) ≡ false
unfolding select has
select_above p zero k h = refl
select_above p (suc n) k h = go (p n) (select_above p n k (omega arith))
  where
    go : (b : Bool) → has k (select p n) ≡ false → has k (cond b (select p n ++ (n ∷ [])) (select p n)) ≡ false
    go true e = has_append k (select p n) (n ∷ []) ∙ rw (e, has_one k n, ne_eqb n k (λ z. omega arith))
    go false e = e

-- below n exactly those are selected that pass
pub select_has : (p : ℕ → Bool) (n k : ℕ) → k < n → has k (select p n) ≡ p k
unfolding select
select_has p zero k h = absurd (not-suc-le-zero h)
select_has p (suc n) k h = at_k (p n) refl (eq-or-lt_of_le {n = k} {m = n} (omega arith)) (select_has p n k)
  where
    at_k : (b : Bool) → p n ≡ b → (k ≡ n) ⊎ (k < n) → (k < n → has k (select p n) ≡ p k) → has k (cond b (select p n ++ (n ∷ [])) (select p n)) ≡ p k
    at_k true e (inl z) f = has_append k (select p n) (n ∷ []) ∙ rw (select_above p n k (omega arith), has_one k n, eq-eqb n k (sym z)) (sym e ∙ ap p (sym z))
    at_k false e (inl z) f = select_above p n k (omega arith) ∙ (sym e ∙ ap p (sym z))
    at_k true e (inr l) f = has_append k (select p n) (n ∷ []) ∙ rw (has_one k n, ne_eqb n k (λ z. omega arith)) (or_false (has k (select p n)) ∙ f l)
    at_k false e (inr l) f = f l

pub select_in : (p : ℕ → Bool) (n k : ℕ) → k < n → p k ≡ true → has k (select p n) ≡ true
select_in p n k h e = select_has p n k h ∙ e

pub select_out : (p : ℕ → Bool) (n k : ℕ) → has k (select p n) ≡ true → (k < n) × (p k ≡ true)
select_out p n k e = go (dec_lt k n)
  where
    go : Dec (k < n) → (k < n) × (p k ≡ true)
    go (yes h) = (h, sym (select_has p n k h) ∙ e)
    go (no f) = absurd (clash e (select_above p n k (omega arith)))

-- more pass below n: the same numbers are selected where the tests agree
pub select_same : (p q : ℕ → Bool) (n : ℕ) → ((k : ℕ) → k < n → p k ≡ q k) → select p n ≡ select q n
unfolding select
select_same p q zero f = refl
select_same p q (suc n) f =
    let ih : select p n ≡ select q n = select_same p q n (λ k h. f k (omega arith)) in
    rw (f n (omega arith), ih)

pub select_size : (p : ℕ → Bool) (n : ℕ) → length (select p n) ≤ n
unfolding select
select_size p zero = omega arith
select_size p (suc n) = go (p n) (select_size p n)
  where
    go : (b : Bool) → length (select p n) ≤ n → length (cond b (select p n ++ (n ∷ [])) (select p n)) ≤ suc n
    go true h = simp length-append (omega arith)
    go false h = omega arith
