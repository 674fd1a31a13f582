-- Laws of lists that the laws of two maps apart in one cell need.
use mathlib.Core.Path.{◌≡◌, refl, sym, ◌∙◌}
use mathlib.Core.Bool.{Bool, true, false, ◌&&◌}
use mathlib.Core.List.{List, [], ◌∷◌, map}
use mathlib.Core.Logic.{⊎_elim}
use Prim.Native.Nat.{ℕ, zero, suc, ◌<◌}
use native.Mathlib.Decide.{dec_lt}
use native.Mathlib.Omega.{arith}
use borrow.Author.Tests.{eq-eqb, eqb-true, eqb-false}
use lib.Dec.{eqb}
use lib.ListN.{length, get_or}
use Rattle.lists.specs.Lists.{has, any, keep, select}
use Rattle.lists.proofs.Bools.{clash, either, or_cases, or_left, or_right}
use Rattle.lists.proofs.Select.{select_has, select_above}

-- what holds of one number and of each other holds of each
pub one_or_other : (c : ℕ) (P : ℕ → Type 0) → P c → ((k : ℕ) → (k ≡ c → ⊥) → P k) → (k : ℕ) → P k
one_or_other c P one other k =
    ⊎_elim (λ e. rw (← eqb-true k c e) at one) (λ e. other k (eqb-false k c e)) (either (eqb k c))

-- not both, where the second is not
pub and_false : (b : Bool) → b && false ≡ false
and_false true = refl
and_false false = refl

-- tests that agree on the list keep the same of it
pub keep_same : (p q : ℕ → Bool) (l : List ℕ) → ((v : ℕ) → has v l ≡ true → p v ≡ q v) → keep p l ≡ keep q l
unfolding keep has
keep_same p q [] f = refl
keep_same p q (x ∷ xs) f =
    rw (f x (or_left _ _ (eq-eqb x x refl)), keep_same p q xs (λ v h. f v (or_right (eqb x v) _ h)))

-- and one passes the first where one passes the second
pub any_same : (p q : ℕ → Bool) (l : List ℕ) → ((v : ℕ) → has v l ≡ true → p v ≡ q v) → any p l ≡ any q l
unfolding any has
any_same p q [] f = refl
any_same p q (x ∷ xs) f =
    rw (f x (or_left _ _ (eq-eqb x x refl)), any_same p q xs (λ v h. f v (or_right (eqb x v) _ h)))

-- what is in a list mapped is what stands at some place, mapped
pub map_at : (f : ℕ → ℕ) (l : List ℕ) (v : ℕ) → has v (map f l) ≡ true → (k : ℕ) × (k < length l) × (f (get_or l k 0) ≡ v)
unfolding has
map_at f [] v e = absurd (clash e refl)
map_at f (x ∷ xs) v e =
    ⊎_elim (λ h. (zero, omega arith, eqb-true (f x) v h)) (λ h. let r = map_at f xs v h in (suc r.0, omega (arith, r.1), r.2))
    (or_cases _ _ e)

-- whether a number is selected is a matter of its own test
pub select_alike : (p q : ℕ → Bool) (n m k : ℕ) → n ≡ m → p k ≡ q k → has k (select p n) ≡ has k (select q m)
select_alike p q n m k same e = rw same (go (dec_lt k m))
  where
    go : Dec (k < m) → has k (select p m) ≡ has k (select q m)
    go (yes l) = select_has p m k l ∙ (e ∙ sym (select_has q m k l))
    go (no f) = select_above p m k (omega arith) ∙ sym (select_above q m k (omega arith))
