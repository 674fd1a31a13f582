-- What is in a list, and what all or one of a list pass.
use mathlib.Core.Path.{◌≡◌, refl, sym, ap, ◌∙◌}
use mathlib.Core.Bool.{Bool, true, false, cond, ◌&&◌, ◌||◌}
use mathlib.Core.List.{List, [], ◌∷◌, ◌++◌}
use mathlib.Core.Logic.{⊎_elim}
use Prim.Native.Nat.{ℕ, zero, suc, ◌<◌}
use native.Mathlib.Nat.{not-suc-le-zero, le_of_suc-le-suc}
use native.Mathlib.Omega.{arith}
use borrow.Author.Tests.{eq-eqb, eqb-true}
use lib.Dec.{eqb}
use lib.ListN.{length, get_or}
use Rattle.lists.specs.Lists.{any, all, has, keep, first, place, repeats}
use Rattle.lists.proofs.Bools.{clash, not_true_false, and_left, and_right, and_both, or_cases, or_left, or_right}

module _ {A : Type 0} (p : A → Bool) where
  -- all pass: so does each, and what is read past the end where that passes too
  pub all_at : (l : List A) (d : A) (k : ℕ) → all p l ≡ true → k < length l → p (get_or l k d) ≡ true
  unfolding all
  all_at [] d k e h = absurd (not-suc-le-zero h)
  all_at (x ∷ xs) d zero e h = and_left (p x) (all p xs) e
  all_at (x ∷ xs) d (suc k) e h = all_at xs d k (and_right (p x) (all p xs) e) (le_of_suc-le-suc h)

  pub all_get : (l : List A) (d : A) (k : ℕ) → all p l ≡ true → p d ≡ true → p (get_or l k d) ≡ true
  unfolding all
  all_get [] d k e h = h
  all_get (x ∷ xs) d zero e h = and_left (p x) (all p xs) e
  all_get (x ∷ xs) d (suc k) e h = all_get xs d k (and_right (p x) (all p xs) e) h

  -- one passes: it stands somewhere
  pub any_at : (l : List A) (d : A) → any p l ≡ true → (k : ℕ) × (k < length l) × (p (get_or l k d) ≡ true)
  unfolding any
  any_at [] d e = absurd (clash e refl)
  any_at (x ∷ xs) d e =
      ⊎_elim (λ (h : p x ≡ true). (zero, omega arith, h))
      (λ (h : any p xs ≡ true). let r = any_at xs d h in (suc r.0, omega (arith, r.1), r.2))
      (or_cases (p x) (any p xs) e)

  pub at_any : (l : List A) (d : A) (k : ℕ) → k < length l → p (get_or l k d) ≡ true → any p l ≡ true
  unfolding any
  at_any [] d k h e = absurd (not-suc-le-zero h)
  at_any (x ∷ xs) d zero h e = or_left (p x) (any p xs) e
  at_any (x ∷ xs) d (suc k) h e = or_right (p x) (any p xs) (at_any xs d k (le_of_suc-le-suc h) e)

-- what is in a list stands somewhere in it
pub has_at : (v : ℕ) (l : List ℕ) → has v l ≡ true → (k : ℕ) × (k < length l) × (get_or l k 0 ≡ v)
unfolding has
has_at v [] e = absurd (clash e refl)
has_at v (x ∷ xs) e =
    ⊎_elim (λ (h : eqb x v ≡ true). (zero, omega arith, eqb-true x v h))
    (λ (h : has v xs ≡ true). let r = has_at v xs h in (suc r.0, omega (arith, r.1), r.2))
    (or_cases (eqb x v) (has v xs) e)

pub at_has : (l : List ℕ) (k : ℕ) → k < length l → has (get_or l k 0) l ≡ true
unfolding has
at_has [] k h = absurd (not-suc-le-zero h)
at_has (x ∷ xs) zero h = or_left (eqb x x) (has x xs) (eq-eqb x x refl)
at_has (x ∷ xs) (suc k) h = or_right (eqb x (get_or xs k 0)) (has (get_or xs k 0) xs) (at_has xs k (le_of_suc-le-suc h))

pub has_append : (v : ℕ) (a b : List ℕ) → has v (a ++ b) ≡ has v a || has v b
unfolding has
has_append v [] b = refl
has_append v (x ∷ xs) b = go (eqb x v) (has_append v xs b)
  where
    go : (t : Bool) → has v (xs ++ b) ≡ has v xs || has v b → t || has v (xs ++ b) ≡ t || has v xs || has v b
    go true e = refl
    go false e = e

pub has_one : (v x : ℕ) → has v (x ∷ []) ≡ eqb x v
unfolding has
has_one v x = go (eqb x v)
  where
    go : (t : Bool) → t || false ≡ t
    go true = refl
    go false = refl

-- all and one by membership
pub all_has : (p : ℕ → Bool) (l : List ℕ) → all p l ≡ true → (v : ℕ) → has v l ≡ true → p v ≡ true
all_has p l e v h = let r = has_at v l h in rw r.2 at (all_at p l 0 r.0 e r.1)

pub has_all : (p : ℕ → Bool) (l : List ℕ) → ((v : ℕ) → has v l ≡ true → p v ≡ true) → all p l ≡ true
unfolding all has
has_all p [] f = refl
has_all p (x ∷ xs) f =
    and_both (p x) (all p xs) (f x (or_left (eqb x x) (has x xs) (eq-eqb x x refl)))
    (has_all p xs (λ v h. f v (or_right (eqb x v) (has v xs) h)))

pub any_has : (p : ℕ → Bool) (l : List ℕ) → any p l ≡ true → (v : ℕ) × (has v l ≡ true) × (p v ≡ true)
any_has p l e = let r = any_at p l 0 e in (get_or l r.0 0, at_has l r.0 r.1, r.2)

pub has_any : (p : ℕ → Bool) (l : List ℕ) (v : ℕ) → has v l ≡ true → p v ≡ true → any p l ≡ true
has_any p l v h e = let r = has_at v l h in at_any p l 0 r.0 r.1 (rw r.2 e)

-- what is kept is what is in the list and passes
pub keep_has : (p : ℕ → Bool) (l : List ℕ) (v : ℕ) → has v (keep p l) ≡ p v && has v l
unfolding keep has
keep_has p [] v = go (p v)
  where
    go : (t : Bool) → false ≡ t && false
    go true = refl
    go false = refl
keep_has p (x ∷ xs) v = go (p x) refl (eqb x v) refl (keep_has p xs v)
  where
    go : (t : Bool) → p x ≡ t → (q : Bool) → eqb x v ≡ q → has v (keep p xs) ≡ p v && has v xs
        → has v (cond t (x ∷ keep p xs) (keep p xs)) ≡ p v && (q || has v xs)
    go true e true f ih =
        let pv : p v ≡ true = ap p (sym (eqb-true x v f)) ∙ e in
        rw (f, pv)
    go true e false f ih = rw f ih
    go false e true f ih =
        let pv : p v ≡ false = ap p (sym (eqb-true x v f)) ∙ e in
        rw (ih, pv)
    go false e false f ih = ih

-- a list that is not empty has its first
pub first_has : (d : ℕ) (l : List ℕ) (v : ℕ) → has v l ≡ true → has (first d l) l ≡ true
unfolding first has
first_has d [] v e = absurd (clash e refl)
first_has d (x ∷ xs) v e = or_left (eqb x x) (has x xs) (eq-eqb x x refl)

pub first_at : (d : ℕ) (l : List ℕ) → first d l ≡ get_or l 0 d
unfolding first
first_at d [] = refl
first_at d (x ∷ xs) = refl

-- no number stands at two places of a list without repeats
pub once : (l : List ℕ) → repeats l ≡ false → (i j : ℕ) → i < length l → j < length l → get_or l i 0 ≡ get_or l j 0 → i ≡ j
unfolding repeats
once [] r i j hi hj e = absurd (not-suc-le-zero hi)
once (x ∷ xs) r zero zero hi hj e = refl
once (x ∷ xs) r zero (suc j) hi hj e =
    absurd (clash (or_left (has x xs) (repeats xs) (rw e (at_has xs j (le_of_suc-le-suc hj)))) r)
once (x ∷ xs) r (suc i) zero hi hj e =
    absurd (clash (or_left (has x xs) (repeats xs) (rw (sym e) (at_has xs i (le_of_suc-le-suc hi)))) r)
once (x ∷ xs) r (suc i) (suc j) hi hj e =
    ap suc (once xs (not_true_false (repeats xs) (λ t. clash (or_right (has x xs) (repeats xs) t) r)) i j (le_of_suc-le-suc hi) (le_of_suc-le-suc hj) e)

-- the first place of a number: it stands there, and where numbers are distinct nowhere else
pub place_at : (v : ℕ) (l : List ℕ) → has v l ≡ true → (place v l < length l) × (get_or l (place v l) 0 ≡ v)
unfolding has place
place_at v [] e = absurd (clash e refl)
place_at v (x ∷ xs) e = go (eqb x v) refl e (place_at v xs)
  where
    go : (b : Bool) → eqb x v ≡ b → (b || has v xs) ≡ true → (has v xs ≡ true → (place v xs < length xs) × (get_or xs (place v xs) 0 ≡ v))
        → (cond b 0 (suc (place v xs)) < suc (length xs)) × (get_or (x ∷ xs) (cond b 0 (suc (place v xs))) 0 ≡ v)
    go true q h f = (omega arith, eqb-true x v q)
    go false q h f = (omega (arith, (f h).0), (f h).1)

pub place_is : (l : List ℕ) → repeats l ≡ false → (j : ℕ) → j < length l → place (get_or l j 0) l ≡ j
place_is l d j h =
    let p = place_at (get_or l j 0) l (at_has l j h) in
    once l d (place (get_or l j 0) l) j p.0 h p.1
