-- The list words of the definitions: which numbers are in a list, equal sets, the numbers that pass a test.
use Rattle.std.specs.Prelude.{Bool, true, false, cond, ◌&&◌, ◌||◌, List, [], ◌∷◌, ◌++◌, ℕ, zero, suc, eqb, leb, ltb}

-- one of the list passes
unfoldable pub any : {A : Type 0} → (A → Bool) → List A → Bool
any p [] = false
any p (x ∷ xs) = p x || any p xs

-- all of the list pass
unfoldable pub all : {A : Type 0} → (A → Bool) → List A → Bool
all p [] = true
all p (x ∷ xs) = p x && all p xs

-- v is in the list
unfoldable pub has : ℕ → List ℕ → Bool
has v [] = false
has v (x ∷ xs) = eqb x v || has v xs

-- the first place of v in the list; the length where it is none of it
unfoldable pub place : ℕ → List ℕ → ℕ
place v [] = 0
place v (x ∷ xs) = cond (eqb x v) 0 (suc (place v xs))

-- equal sets, whatever the order
unfoldable pub same_set : List ℕ → List ℕ → Bool
same_set a b = all (λ x. has x b) a && all (λ x. has x a) b

-- the same list
unfoldable pub same : List ℕ → List ℕ → Bool
same [] [] = true
same [] (y ∷ ys) = false
same (x ∷ xs) [] = false
same (x ∷ xs) (y ∷ ys) = eqb x y && same xs ys

-- a number occurs twice
unfoldable pub repeats : List ℕ → Bool
repeats [] = false
repeats (x ∷ xs) = has x xs || repeats xs

-- those of the list that pass, in its order
unfoldable pub keep : (ℕ → Bool) → List ℕ → List ℕ
keep p [] = []
keep p (x ∷ xs) = cond (p x) (x ∷ keep p xs) (keep p xs)

-- the numbers below n that pass, ascending, each once
unfoldable pub select : (ℕ → Bool) → ℕ → List ℕ
select p zero = []
select p (suc n) = cond (p n) (select p n ++ (n ∷ [])) (select p n)

-- the first of the list, or d where it is empty
unfoldable pub first : ℕ → List ℕ → ℕ
first d [] = d
first d (x ∷ xs) = x

-- the next of an ascending list after h, and after the last the first
unfoldable pub after : ℕ → List ℕ → ℕ
after h l = first h (keep (ltb h) l ++ l)

-- an ascending list as a cycle, from h on
unfoldable pub from : ℕ → List ℕ → List ℕ
from h l = keep (leb h) l ++ keep (λ k. ltb k h) l

-- n steps of f
unfoldable pub steps : (ℕ → ℕ) → ℕ → ℕ → ℕ
steps f zero h = h
steps f (suc n) h = f (steps f n h)

-- f 0, f 1, and so on, n of them
unfoldable pub list_of : ℕ → (ℕ → ℕ) → List ℕ
list_of zero f = []
list_of (suc n) f = list_of n f ++ (f n ∷ [])

-- all numbers below n pass
unfoldable pub every : ℕ → (ℕ → Bool) → Bool
every zero p = true
every (suc n) p = every n p && p n
