-- Tests joined by `&&`, `||` and `not`.
use mathlib.Core.Path.{◌≡◌, refl, sym}
use mathlib.Core.Bool.{Bool, true, false, not, ◌&&◌, ◌||◌}
use mathlib.Core.Logic.{◌⊎◌, inl, inr}
use Prim.Native.Nat.{ℕ}
use native.Mathlib.Omega.{arith}

-- no test is both
pub clash : {b : Bool} → b ≡ true → b ≡ false → ⊥
clash {b} t f = let z : ◌≡◌ {A = ℕ} 0 1 = cc in omega arith

-- each test is one of the two
pub either : (b : Bool) → (b ≡ true) ⊎ (b ≡ false)
either true = inl refl
either false = inr refl

pub not_true_false : (b : Bool) → (b ≡ true → ⊥) → b ≡ false
not_true_false true f = absurd (f refl)
not_true_false false f = refl

pub and_left : (a b : Bool) → a && b ≡ true → a ≡ true
and_left true b e = refl
and_left false b e = e

pub and_right : (a b : Bool) → a && b ≡ true → b ≡ true
and_right true b e = e
and_right false b e = absurd (clash e refl)

pub and_both : (a b : Bool) → a ≡ true → b ≡ true → a && b ≡ true
and_both a b p q = rw (p, q)

-- a row of tests: the first that fails ends it
pub and_no : (a b : Bool) → a ≡ false → false ≡ a && b
and_no a b e = rw e

pub and_yes : (a b r : Bool) → a ≡ true → r ≡ b → r ≡ a && b
and_yes a b r e f = rw e f

pub or_cases : (a b : Bool) → a || b ≡ true → (a ≡ true) ⊎ (b ≡ true)
or_cases true b e = inl refl
or_cases false b e = inr e

pub or_left : (a b : Bool) → a ≡ true → a || b ≡ true
or_left a b p = rw p

pub or_right : (a b : Bool) → b ≡ true → a || b ≡ true
or_right true b p = refl
or_right false b p = p

-- two tests that imply each other are one
pub same_test : (a b : Bool) → (a ≡ true → b ≡ true) → (b ≡ true → a ≡ true) → a ≡ b
same_test true b f g = sym (f refl)
same_test false true f g = g refl
same_test false false f g = refl

pub not_false_true : (b : Bool) → not b ≡ true → b ≡ false
not_false_true true e = absurd (clash e refl)
not_false_true false e = refl

pub not_of_false : (b : Bool) → b ≡ false → not b ≡ true
not_of_false b e = rw e
