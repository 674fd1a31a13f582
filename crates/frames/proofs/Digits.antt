-- Digits and their values.
use mathlib.Core.Path.{◌≡◌, refl, sym}
use mathlib.Core.Bool.{Bool, true, false, cond}
use mathlib.Core.List.{List, [], ◌∷◌}
use Prim.Native.Nat.{ℕ, suc, ◌+◌, ◌*◌, ◌<◌, ◌≤◌}
use native.Mathlib.Omega.{arith}
use borrow.Author.Tests.{ne_eqb, eqb-true}
use lib.Dec.{eqb}
use lib.ListN.{length, get_or}
use Rattle.lists.proofs.Below.{all_below, below_at}
use Rattle.frames.specs.Frames.{digits, place_of, digit_of, byte_at}

-- each digit is at its place
pub is_digit : (k b : ℕ) → k < 16 → b ≡ get_or digits k 0 → k ≡ digit_of b
unfolding all_below digit_of place_of digits
is_digit k b h e = rw e (sym (eqb-true (digit_of (get_or digits k 0)) k (below_at 16 right computed k h)))
  where
    right : ℕ → Bool
    right k = eqb (digit_of (get_or digits k 0)) k

    computed : all_below 16 right ≡ true
    computed = refl

-- and a byte that is none of them is no digit
pub no_digit : (b : ℕ) → (b ≡ 48 → ⊥) → (b ≡ 49 → ⊥) → (b ≡ 50 → ⊥) → (b ≡ 51 → ⊥) → (b ≡ 52 → ⊥) → (b ≡ 53 → ⊥) → (b ≡ 54 → ⊥) → (b ≡ 55 → ⊥) → (b ≡ 56 → ⊥) → (b ≡ 57 → ⊥) → (b ≡ 97 → ⊥) → (b ≡ 98 → ⊥) → (b ≡ 99 → ⊥) → (b ≡ 100 → ⊥) → (b ≡ 101 → ⊥) → (b ≡ 102 → ⊥) → 16 ≡ digit_of b
unfolding digit_of place_of digits
no_digit b h0 h1 h2 h3 h4 h5 h6 h7 h8 h9 h10 h11 h12 h13 h14 h15 =
    simp (ne_eqb 48 b (λ e. h0 (sym e)), ne_eqb 49 b (λ e. h1 (sym e)), ne_eqb 50 b (λ e. h2 (sym e)), ne_eqb 51 b (λ e. h3 (sym e)), ne_eqb 52 b (λ e. h4 (sym e)), ne_eqb 53 b (λ e. h5 (sym e)), ne_eqb 54 b (λ e. h6 (sym e)), ne_eqb 55 b (λ e. h7 (sym e)), ne_eqb 56 b (λ e. h8 (sym e)), ne_eqb 57 b (λ e. h9 (sym e)), ne_eqb 97 b (λ e. h10 (sym e)), ne_eqb 98 b (λ e. h11 (sym e)), ne_eqb 99 b (λ e. h12 (sym e)), ne_eqb 100 b (λ e. h13 (sym e)), ne_eqb 101 b (λ e. h14 (sym e)), ne_eqb 102 b (λ e. h15 (sym e)))

-- a place of a list is at most its length
place_most : (b : ℕ) (l : List ℕ) → place_of b l ≤ length l
unfolding place_of
place_most b [] = omega arith
place_most b (x ∷ xs) = go (eqb x b) (place_most b xs)
  where
    go : (t : Bool) → place_of b xs ≤ length xs → cond t 0 (suc (place_of b xs)) ≤ suc (length xs)
    go true h = omega arith
    go false h = omega arith

pub digit_most : (b : ℕ) → digit_of b ≤ 16
unfolding digit_of digits
digit_most b = place_most b digits

-- so what two characters say is small, digits or not
pub byte_most : (line : List ℕ) (k : ℕ) → byte_at line k ≤ 272
unfolding byte_at
byte_most line k = omega (arith, digit_most (get_or line (2 * k) 0), digit_most (get_or line (2 * k + 1) 0))
