-- Ascending lists: what is in one fixes it.
use mathlib.Core.Path.{◌≡◌, refl, sym, ◌∙◌}
use mathlib.Core.Bool.{Bool, true, false, cond, ◌&&◌, ◌||◌}
use mathlib.Core.List.{List, [], ◌∷◌, ◌++◌}
use mathlib.Core.Logic.{⊎_elim, ◌⊎◌, inl, inr}
use Prim.Native.Nat.{ℕ, zero, suc, ◌<◌, ◌≤◌}
use native.Mathlib.Nat.{not-suc-le-zero, le_of_suc-le-suc, eq-or-lt_of_le}
use native.Mathlib.Omega.{arith}
use borrow.Author.Tests.{eq-eqb, eqb-true}
use lib.Dec.{eqb}
use lib.ListN.{get_or}
use Rattle.lists.specs.Lists.{has, keep, select, first, repeats}
use Rattle.lists.specs.Ascending.{Ascending}
use Rattle.lists.proofs.Bools.{clash, and_left, and_right, and_both, or_cases, or_left, or_right, same_test, not_true_false}
use Rattle.lists.proofs.Members.{has_append, has_one, has_at, at_has, keep_has, first_has}
use Rattle.lists.proofs.Select.{select_out, select_has}

-- by the first and the rest
pub asc_rest : (x : ℕ) (xs : List ℕ) → Ascending (x ∷ xs) → Ascending xs
asc_rest x xs a i j h k = a (suc i) (suc j) (omega arith) (omega arith)

pub asc_first : (x : ℕ) (xs : List ℕ) → Ascending (x ∷ xs) → (v : ℕ) → has v xs ≡ true → x < v
asc_first x xs a v e = let r = has_at v xs e in rw r.2 at (a zero (suc r.0) (omega arith) (omega (arith, r.1)))

pub asc_cons : (x : ℕ) (xs : List ℕ) → ((v : ℕ) → has v xs ≡ true → x < v) → Ascending xs → Ascending (x ∷ xs)
asc_cons x xs f a i zero h k = absurd (not-suc-le-zero h)
asc_cons x xs f a zero (suc j) h k = f (get_or xs j 0) (at_has xs j (le_of_suc-le-suc k))
asc_cons x xs f a (suc i) (suc j) h k = a i j (le_of_suc-le-suc h) (le_of_suc-le-suc k)

pub asc_none : Ascending []
asc_none i j h k = absurd (not-suc-le-zero k)

-- two ascending lists, all of the first below all of the second
pub asc_append : (a b : List ℕ) → Ascending a → Ascending b → ((x y : ℕ) → has x a ≡ true → has y b ≡ true → x < y) → Ascending (a ++ b)
unfolding has
asc_append [] b p q f = q
asc_append (x ∷ xs) b p q f =
    asc_cons x (xs ++ b)
    (λ v e.
    ⊎_elim (λ (h : has v xs ≡ true). asc_first x xs p v h)
    (λ (h : has v b ≡ true). f x v (or_left (eqb x x) (has x xs) (eq-eqb x x refl)) h)
    (or_cases (has v xs) (has v b) (sym (has_append v xs b) ∙ e)))
    (asc_append xs b (asc_rest x xs p) q (λ y z h k. f y z (or_right (eqb x y) (has y xs) h) k))

pub select_ascends : (p : ℕ → Bool) (n : ℕ) → Ascending (select p n)
unfolding select has
select_ascends p zero = asc_none
select_ascends p (suc n) = go (p n) (select_ascends p n)
  where
    go : (b : Bool) → Ascending (select p n) → Ascending (cond b (select p n ++ (n ∷ [])) (select p n))
    go true a =
        asc_append (select p n) (n ∷ []) a (asc_cons n [] (λ v e. absurd (none v e)) asc_none)
        (λ x y h k. below x y h k)
      where
        none : (v : ℕ) → has v [] ≡ true → ⊥
        none v e = clash e refl

        below : (x y : ℕ) → has x (select p n) ≡ true → has y (n ∷ []) ≡ true → x < y
        below x y h k = omega (arith, (select_out p n x h).0, eqb-true n y (sym (has_one y n) ∙ k))
    go false a = a

pub keep_ascends : (p : ℕ → Bool) (l : List ℕ) → Ascending l → Ascending (keep p l)
unfolding keep
keep_ascends p [] a = asc_none
keep_ascends p (x ∷ xs) a = go (p x) (keep_ascends p xs (asc_rest x xs a))
  where
    go : (b : Bool) → Ascending (keep p xs) → Ascending (cond b (x ∷ keep p xs) (keep p xs))
    go true r = asc_cons x (keep p xs) (λ v e. asc_first x xs a v (and_right (p v) (has v xs) (sym (keep_has p xs v) ∙ e))) r
    go false r = r

-- the first is the smallest
pub first_least : (d : ℕ) (l : List ℕ) → Ascending l → (v : ℕ) → has v l ≡ true → first d l ≤ v
unfolding first has
first_least d [] a v e = absurd (clash e refl)
first_least d (x ∷ xs) a v e =
    ⊎_elim (λ (h : eqb x v ≡ true). omega (arith, eqb-true x v h))
    (λ (h : has v xs ≡ true). omega (arith, asc_first x xs a v h))
    (or_cases (eqb x v) (has v xs) e)

-- nothing else fits: ascending lists with the same numbers are equal
pub asc_same : (a b : List ℕ) → Ascending a → Ascending b → ((v : ℕ) → has v a ≡ has v b) → a ≡ b
unfolding has
asc_same [] [] p q f = refl
asc_same [] (y ∷ ys) p q f = absurd (clash (or_left (eqb y y) (has y ys) (eq-eqb y y refl)) (sym (f y)))
asc_same (x ∷ xs) [] p q f = absurd (clash (or_left (eqb x x) (has x xs) (eq-eqb x x refl)) (f x))
asc_same (x ∷ xs) (y ∷ ys) p q f = go (first_both) (asc_same xs ys (asc_rest x xs p) (asc_rest y ys q))
  where
    in_x : (v : ℕ) → has v xs ≡ true → eqb x v || has v xs ≡ true
    in_x v h = or_right (eqb x v) (has v xs) h

    x_first : (v : ℕ) → eqb x v || has v xs ≡ true → x ≤ v
    x_first v e =
        ⊎_elim (λ (h : eqb x v ≡ true). omega (arith, eqb-true x v h)) (λ (h : has v xs ≡ true). omega (arith, asc_first x xs p v h))
        (or_cases (eqb x v) (has v xs) e)

    y_first : (v : ℕ) → eqb y v || has v ys ≡ true → y ≤ v
    y_first v e =
        ⊎_elim (λ (h : eqb y v ≡ true). omega (arith, eqb-true y v h)) (λ (h : has v ys ≡ true). omega (arith, asc_first y ys q v h))
        (or_cases (eqb y v) (has v ys) e)

    first_both : x ≡ y
    first_both =
        omega (arith, x_first y (f y ∙ or_left (eqb y y) (has y ys) (eq-eqb y y refl)), y_first x (sym (f x) ∙ or_left (eqb x x) (has x xs) (eq-eqb x x refl)))

    rest : (v : ℕ) → x ≡ y → has v xs ≡ has v ys
    rest v e =
        same_test (has v xs) (has v ys)
        (λ h.
        ⊎_elim (λ (k : eqb y v ≡ true). absurd (omega (arith, asc_first x xs p v h, eqb-true y v k))) (λ (k : has v ys ≡ true). k)
        (or_cases (eqb y v) (has v ys) (sym (f v) ∙ or_right (eqb x v) (has v xs) h)))
        (λ h.
        ⊎_elim (λ (k : eqb x v ≡ true). absurd (omega (arith, asc_first y ys q v h, eqb-true x v k))) (λ (k : has v xs ≡ true). k)
        (or_cases (eqb x v) (has v xs) (f v ∙ or_right (eqb y v) (has v ys) h)))

    go : x ≡ y → (((v : ℕ) → has v xs ≡ has v ys) → xs ≡ ys) → x ∷ xs ≡ y ∷ ys
    go e ih = let r : xs ≡ ys = ih (λ v. rest v e) in rw (e, r)

-- each once
pub asc_once : (l : List ℕ) → Ascending l → repeats l ≡ false
unfolding repeats
asc_once [] a = refl
asc_once (x ∷ xs) a =
    let none : has x xs ≡ false = not_true_false (has x xs) (λ e. omega (arith, asc_first x xs a x e)) in
    rw (none, asc_once xs (asc_rest x xs a))

-- what is kept of what is selected is selected at once
pub keep_select : (p q : ℕ → Bool) (n : ℕ) → keep q (select p n) ≡ select (λ k. q k && p k) n
keep_select p q n =
    asc_same (keep q (select p n)) (select (λ k. q k && p k) n)
    (keep_ascends q (select p n) (select_ascends p n)) (select_ascends (λ k. q k && p k) n)
    (λ v. same_test (has v (keep q (select p n))) (has v (select (λ k. q k && p k) n)) (there v) (back v))
  where
    there : (v : ℕ) → has v (keep q (select p n)) ≡ true → has v (select (λ k. q k && p k) n) ≡ true
    there v e =
        let both = sym (keep_has q (select p n) v) ∙ e in
        let s = select_out p n v (and_right (q v) (has v (select p n)) both) in
        select_has (λ k. q k && p k) n v s.0 ∙ and_both (q v) (p v) (and_left (q v) (has v (select p n)) both) s.1

    back : (v : ℕ) → has v (select (λ k. q k && p k) n) ≡ true → has v (keep q (select p n)) ≡ true
    back v e =
        let s = select_out (λ k. q k && p k) n v e in
        keep_has q (select p n) v
        ∙ and_both (q v) (has v (select p n)) (and_left (q v) (p v) s.1) (select_has p n v s.0 ∙ and_right (q v) (p v) s.1)

-- the first that passes is the first selected
pub first_select : (d : ℕ) (p : ℕ → Bool) (n k : ℕ) → k < n → p k ≡ true → ((j : ℕ) → j < k → p j ≡ false) → first d (select p n) ≡ k
first_select d p n k h e before = go (eq-or-lt_of_le {n = first d (select p n)} {m = k} least)
  where
    in_k : has k (select p n) ≡ true
    in_k = select_has p n k h ∙ e

    least : first d (select p n) ≤ k
    least = first_least d (select p n) (select_ascends p n) k in_k

    go : (first d (select p n) ≡ k) ⊎ (first d (select p n) < k) → first d (select p n) ≡ k
    go (inl q) = q
    go (inr less) = absurd (clash (select_out p n (first d (select p n)) (first_has d (select p n) k in_k)).1 (before (first d (select p n)) less))
