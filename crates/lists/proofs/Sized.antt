-- Lists in which no number stands twice: how long they are, and such a list mapped.
use mathlib.Core.Path.{◌≡◌, refl, sym, ap, ◌∙◌}
use mathlib.Core.Bool.{Bool, true, false, cond, not, ◌||◌}
use mathlib.Core.List.{List, [], ◌∷◌, map}
use mathlib.Core.Logic.{⊎_elim}
use Prim.Native.Nat.{ℕ, suc, ◌<◌, ◌≤◌}
use native.Mathlib.Omega.{arith}
use borrow.Author.Tests.{eq-eqb, eqb-true}
use lib.Dec.{eqb}
use lib.ListN.{length, get_or}
use Rattle.lists.specs.Lists.{has, keep, repeats, same_set}
use Rattle.lists.proofs.Bools.{clash, or_cases, or_left, or_right, not_true_false, not_of_false}
use Rattle.lists.proofs.Members.{at_has}
use Rattle.lists.proofs.Counts.{neither}
use Rattle.lists.proofs.Keep.{keep_in, keep_size}
use Rattle.lists.proofs.Alike.{map_at}
use Rattle.lists.proofs.Sets.{same_has}

-- one of the list does not pass: fewer are kept
pub keep_fewer : (p : ℕ → Bool) (l : List ℕ) (v : ℕ) → has v l ≡ true → p v ≡ false → length (keep p l) < length l
unfolding keep has
keep_fewer p [] v e f = absurd (clash e refl)
keep_fewer p (x ∷ xs) v e f = go (p x) refl (eqb x v) refl e (λ h. keep_fewer p xs v h f)
  where
    go : (b : Bool) → p x ≡ b → (q : Bool) → eqb x v ≡ q → (q || has v xs) ≡ true → (has v xs ≡ true → length (keep p xs) < length xs)
        → length (cond b (x ∷ keep p xs) (keep p xs)) < suc (length xs)
    go false px q g h rest = omega (arith, keep_size p xs)
    go true px true g h rest = absurd (clash (sym (ap p (eqb-true x v g)) ∙ px) f)
    go true px false g h rest = omega (arith, rest h)

-- distinct numbers that are all in another list are no more than it has
pub distinct_fewer : (a b : List ℕ) → repeats a ≡ false → ((v : ℕ) → has v a ≡ true → has v b ≡ true) → length a ≤ length b
unfolding repeats has
distinct_fewer [] b r f = omega arith
distinct_fewer (x ∷ xs) b r f =
    omega (
      arith,
      distinct_fewer xs (keep other b) parts.1 (λ v h. keep_in other b v (apart v h) (f v (or_right (eqb x v) (has v xs) h))),
      keep_fewer other b x (f x (or_left (eqb x x) (has x xs) (eq-eqb x x refl))) (ap not (eq-eqb x x refl)),
    )
  where
    other : ℕ → Bool
    other v = not (eqb x v)

    parts : (has x xs ≡ false) × (repeats xs ≡ false)
    parts = neither (has x xs) (repeats xs) r

    apart : (v : ℕ) → has v xs ≡ true → other v ≡ true
    apart v h = not_of_false (eqb x v) (not_true_false (eqb x v) (λ e. clash (ap (λ (u : ℕ). has u xs) (eqb-true x v e) ∙ h) parts.0))

-- and fewer, where another number is in it
pub distinct_less : (a b : List ℕ) (x : ℕ) → repeats a ≡ false → ((v : ℕ) → has v a ≡ true → has v b ≡ true)
    → has x a ≡ false → has x b ≡ true → length a < length b
unfolding repeats has
distinct_less a b x r f out inside =
    distinct_fewer (x ∷ a) b (rw (out, r)) (λ v e. ⊎_elim (λ q. rw (eqb-true x v q) at inside) (f v) (or_cases (eqb x v) (has v a) e))

-- so equal sets of distinct numbers have one size
pub same_size : (a b : List ℕ) → repeats a ≡ false → repeats b ≡ false → same_set a b ≡ true → length a ≡ length b
same_size a b ra rb e =
    omega (arith, distinct_fewer a b ra (λ v h. sym (same_has a b e v) ∙ h), distinct_fewer b a rb (λ v h. same_has a b e v ∙ h))

-- distinct numbers mapped one to one are distinct
pub map_once : (f : ℕ → ℕ) (l : List ℕ) → repeats l ≡ false → ((x y : ℕ) → has x l ≡ true → has y l ≡ true → f x ≡ f y → x ≡ y)
    → repeats (map f l) ≡ false
unfolding repeats has
map_once f [] r one = refl
map_once f (x ∷ xs) r one =
    rw (first, map_once f xs parts.1 (λ y z hy hz e. one y z (or_right (eqb x y) (has y xs) hy) (or_right (eqb x z) (has z xs) hz) e))
  where
    parts : (has x xs ≡ false) × (repeats xs ≡ false)
    parts = neither (has x xs) (repeats xs) r

    first : has (f x) (map f xs) ≡ false
    first =
        not_true_false (has (f x) (map f xs))
        (λ e. let r = map_at f xs (f x) e in
        let here = at_has xs r.0 r.1 in
        let same = one (get_or xs r.0 0) x (or_right (eqb x (get_or xs r.0 0)) (has (get_or xs r.0 0) xs) here) (or_left (eqb x x) (has x xs) (eq-eqb x x refl)) r.2 in
        clash (ap (λ (u : ℕ). has u xs) (sym same) ∙ here) parts.0)
