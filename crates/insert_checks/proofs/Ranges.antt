-- A test of each number of a list, as an iterator asks it.
use mathlib.Core.Path.{◌≡◌, refl}
use mathlib.Core.Bool.{Bool, true, false, ◌||◌}
use mathlib.Core.List.{List, [], ◌∷◌, ◌++◌}
use Prim.Native.Nat.{ℕ, zero, suc, ◌+◌}
use native.Mathlib.Numerals.{unary_clauses}
use native.Mathlib.Omega.{arith}
use Rattle.std.specs.List.{list_any, range_with_len}
use Rattle.lists.specs.Lists.{any, list_of}

or_false : (b : Bool) → b || false ≡ b
or_false true = refl
or_false false = refl

or_turn : (a b c : Bool) → a || (b || c) ≡ (a || b) || c
or_turn true b c = refl
or_turn false b c = refl

-- the last number first
range_last : (p : ℕ → Bool) (a n : ℕ) → list_any p (range_with_len a (suc n)) ≡ list_any p (range_with_len a n) || p (a + n)
range_last p a zero = simp unary_clauses (or_false (p a))
range_last p a (suc n) =
    let here : a + 1 + n ≡ a + suc n = omega arith in
    rw (range_last p (a + 1) n, here) (or_turn (p a) (list_any p (range_with_len (a + 1) n)) (p (a + suc n)))

list_last : (p : ℕ → Bool) (l : List ℕ) (x : ℕ) → any p (l ++ (x ∷ [])) ≡ any p l || p x
unfolding any
list_last p [] x = or_false (p x)
list_last p (y ∷ ys) x = rw (list_last p ys x) (or_turn (p y) (any p ys) (p x))

-- of a list that is made place by place
pub any_places : (p : ℕ → Bool) (g : ℕ → ℕ) (n : ℕ) → list_any (λ i. p (g i)) (range_with_len 0 n) ≡ any p (list_of n g)
unfolding any list_of
any_places p g zero = refl
any_places p g (suc n) =
    let here : 0 + n ≡ n = omega arith in
    rw (range_last (λ i. p (g i)) 0 n, here, any_places p g n, list_last p (list_of n g) (g n))
