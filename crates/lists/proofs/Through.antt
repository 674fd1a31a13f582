-- A list made place by place, looked through.
use mathlib.Core.Path.{◌≡◌, refl, sym, ◌∙◌}
use mathlib.Core.Bool.{Bool, true, false, ◌||◌}
use mathlib.Core.List.{List, [], ◌∷◌, ◌++◌}
use mathlib.Core.Logic.{⊎_elim}
use Prim.Native.Nat.{ℕ, zero, suc, ◌+◌, ◌<◌, ◌≤◌}
use native.Mathlib.Nat.{not-suc-le-zero, eq-or-lt_of_le}
use native.Mathlib.Numerals.{add-one}
use native.Mathlib.Omega.{arith}
use Rattle.lists.specs.Lists.{any, list_of}
use Rattle.lists.proofs.Bools.{or_left, or_right}

any_end : (p : ℕ → Bool) (l : List ℕ) (x : ℕ) → any p (l ++ (x ∷ [])) ≡ any p l || p x
unfolding any
any_end p [] x = or_none (p x)
  where
    or_none : (b : Bool) → b || false ≡ b
    or_none true = refl
    or_none false = refl
any_end p (y ∷ ys) x = go (p y) (any_end p ys x)
  where
    go : (b : Bool) → any p (ys ++ (x ∷ [])) ≡ any p ys || p x → b || any p (ys ++ (x ∷ [])) ≡ b || any p ys || p x
    go true e = refl
    go false e = e

module _ (p : ℕ → Bool) (g : ℕ → ℕ) where
  pub none_start : any p (list_of 0 g) ≡ false
  unfolding any list_of
  none_start = refl

  pub none_more : (i : ℕ) → any p (list_of i g) ≡ false → p (g i) ≡ false → any p (list_of (i + 1) g) ≡ false
  unfolding list_of
  none_more i e q = rw (add-one i) (any_end p (list_of i g) (g i) ∙ rw (e, q))

  pub one_there : (n i : ℕ) → i < n → p (g i) ≡ true → any p (list_of n g) ≡ true
  unfolding list_of
  one_there zero i h e = absurd (not-suc-le-zero h)
  one_there (suc n) i h e =
      any_end p (list_of n g) (g n)
      ∙ ⊎_elim (λ (z : i ≡ n). or_right (any p (list_of n g)) (p (g n)) (rw z at e)) (λ (l : i < n). or_left (any p (list_of n g)) (p (g n)) (one_there n i l e))
      (eq-or-lt_of_le {n = i} {m = n} (omega arith))

  pub none_all : (i n : ℕ) → any p (list_of i g) ≡ false → i ≤ n → n ≤ i → false ≡ any p (list_of n g)
  none_all i n e a b = let q : i ≡ n = omega arith in sym (rw q at e)
