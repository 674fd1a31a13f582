-- More laws of lists: what is kept, by a test and by a wider one; the first; what is in a list mapped.
use mathlib.Core.Path.{◌≡◌, refl, sym, ap, ◌∙◌}
use mathlib.Core.Bool.{Bool, true, false, cond, ◌&&◌}
use mathlib.Core.List.{List, [], ◌∷◌, ◌++◌, map}
use mathlib.Core.Logic.{⊎_elim, ◌⊎◌, inl, inr}
use Prim.Native.Nat.{ℕ, suc, ◌<◌, ◌≤◌}
use native.Mathlib.Omega.{arith}
use borrow.Author.Tests.{eq-eqb, eqb-true}
use lib.Dec.{eqb}
use lib.ListN.{length}
use Rattle.lists.specs.Lists.{has, keep, first}
use Rattle.lists.proofs.Bools.{clash, and_left, and_right, and_both, or_cases, or_left, or_right}
use Rattle.lists.proofs.Members.{keep_has}

-- what passes and is in the list is kept
pub keep_in : (p : ℕ → Bool) (l : List ℕ) (v : ℕ) → p v ≡ true → has v l ≡ true → has v (keep p l) ≡ true
keep_in p l v e h = keep_has p l v ∙ and_both _ _ e h

-- what is kept passes and is in the list
pub keep_out : (p : ℕ → Bool) (l : List ℕ) (v : ℕ) → has v (keep p l) ≡ true → (p v ≡ true) × (has v l ≡ true)
keep_out p l v e =
    let both : p v && has v l ≡ true = sym (keep_has p l v) ∙ e in
    (and_left _ _ both, and_right (p v) _ both)

-- no more is kept than there is
pub keep_size : (p : ℕ → Bool) (l : List ℕ) → length (keep p l) ≤ length l
unfolding keep
keep_size p [] = omega arith
keep_size p (x ∷ xs) = go (p x) (keep_size p xs)
  where
    go : (b : Bool) → length (keep p xs) ≤ length xs → length (cond b (x ∷ keep p xs) (keep p xs)) ≤ suc (length xs)
    go true h = omega arith
    go false h = omega arith

-- more pass: the same are kept, or more
pub keep_grow : (p q : ℕ → Bool) (l : List ℕ) → ((v : ℕ) → has v l ≡ true → p v ≡ true → q v ≡ true)
    → (keep q l ≡ keep p l) ⊎ (length (keep p l) < length (keep q l))
unfolding keep has
keep_grow p q [] f = inl refl
keep_grow p q (x ∷ xs) f =
    go (p x) (q x) (f x (or_left _ _ (eq-eqb x x refl))) (keep_grow p q xs (λ v h. f v (or_right (eqb x v) (has v xs) h)))
  where
    go : (a b : Bool) → (a ≡ true → b ≡ true) → (keep q xs ≡ keep p xs) ⊎ (length (keep p xs) < length (keep q xs))
        → (cond b (x ∷ keep q xs) (keep q xs) ≡ cond a (x ∷ keep p xs) (keep p xs))
        ⊎ (length (cond a (x ∷ keep p xs) (keep p xs)) < length (cond b (x ∷ keep q xs) (keep q xs)))
    go true true g (inl e) = inl (rw e)
    go true true g (inr h) = inr (omega arith)
    go true false g h = absurd (clash (g refl) refl)
    go false true g (inl e) = inr (rw e (omega arith))
    go false true g (inr h) = inr (omega arith)
    go false false g h = h

-- the first of a list is in it, or is what stands for none
pub first_either : (d : ℕ) (l : List ℕ) → (first d l ≡ d) ⊎ (has (first d l) l ≡ true)
unfolding first has
first_either d [] = inl refl
first_either d (x ∷ xs) = inr (or_left _ _ (eq-eqb x x refl))

-- what is in a list is, mapped, in the list mapped
pub map_has : (f : ℕ → ℕ) (l : List ℕ) (v : ℕ) → has v l ≡ true → has (f v) (map f l) ≡ true
unfolding has
map_has f [] v e = e
map_has f (x ∷ xs) v e =
    ⊎_elim (λ h. or_left _ _ (eq-eqb (f x) (f v) (ap f (eqb-true x v h))))
    (λ h. or_right (eqb (f x) (f v)) _ (map_has f xs v h))
    (or_cases _ _ e)

-- one more at the end
pub keep_yes : (p : ℕ → Bool) (l : List ℕ) (x : ℕ) → p x ≡ true → keep p (l ++ (x ∷ [])) ≡ keep p l ++ (x ∷ [])
unfolding keep
keep_yes p [] x e = rw e
keep_yes p (y ∷ ys) x e = go (p y) (keep_yes p ys x e)
  where
    go : (b : Bool) → keep p (ys ++ (x ∷ [])) ≡ keep p ys ++ (x ∷ [])
        → cond b (y ∷ keep p (ys ++ (x ∷ []))) (keep p (ys ++ (x ∷ []))) ≡ cond b (y ∷ keep p ys) (keep p ys) ++ (x ∷ [])
    go true q = ap (◌∷◌ y) q
    go false q = q

pub keep_no : (p : ℕ → Bool) (l : List ℕ) (x : ℕ) → p x ≡ false → keep p (l ++ (x ∷ [])) ≡ keep p l
unfolding keep
keep_no p [] x e = rw e
keep_no p (y ∷ ys) x e = go (p y) (keep_no p ys x e)
  where
    go : (b : Bool) → keep p (ys ++ (x ∷ [])) ≡ keep p ys
        → cond b (y ∷ keep p (ys ++ (x ∷ []))) (keep p (ys ++ (x ∷ []))) ≡ cond b (y ∷ keep p ys) (keep p ys)
    go true q = ap (◌∷◌ y) q
    go false q = q
