-- The digits of a number are read back as that number.
use mathlib.Core.Path.{◌≡◌, refl, ◌∙◌}
use mathlib.Core.Bool.{Bool, true, cond, ◌&&◌}
use mathlib.Core.List.{List, [], ◌∷◌, ◌++◌}
use Prim.Native.Nat.{ℕ, zero, suc, ◌+◌, ◌-◌, ◌*◌, ◌/◌, ◌%◌, ◌<◌, ◌≤◌}
use native.Mathlib.Decide.{dec_lt}
use native.Mathlib.Nat.{not-suc-le-zero}
use native.Mathlib.Omega.{arith}
use borrow.Author.Tests.{lt-ltb, le-ltb, le-leb, leb-true, ne_eqb}
use lib.Dec.{leb, ltb}
use lib.ListN.{length, length-append}
use lib.IntN.{ℤ, pos, negsuc}
use mir.Syntax.{w16}
use mir.Val.{SFits}
use Rattle.lists.specs.Lists.{all}
use Rattle.lists.proofs.Bools.{and_left, and_right, and_both}
use Rattle.off.specs.Words.{parts}
use Rattle.off.specs.Numbers.{Is, is_digit, decimal, most_digits, number_of, within, minus, coordinate_of}
use Rattle.off.specs.Writing.{digits_to, digits_of, coordinate_text}
use Rattle.off.proofs.Joined.{plain, fine}

-- ten, a hundred and so on
unfoldable tens : ℕ → ℕ
tens zero = 10
tens (suc n) = 10 * tens n

decimal_append : (a : List ℕ) (n b : ℕ) → decimal n (a ++ (b ∷ [])) ≡ 10 * decimal n a + (b - 48)
unfolding decimal
decimal_append [] n b = refl
decimal_append (x ∷ xs) n b = decimal_append xs (10 * n + (x - 48)) b

pub all_append : (p : ℕ → Bool) (a b : List ℕ) → all p a ≡ true → all p b ≡ true → all p (a ++ b) ≡ true
unfolding all
all_append p [] b f g = g
all_append p (x ∷ xs) b f g = and_both (p x) (all p (xs ++ b)) (and_left (p x) (all p xs) f) (all_append p xs b (and_right (p x) (all p xs) f) g)

digit_is : (k : ℕ) → k < 10 → is_digit (48 + k) ≡ true
unfolding is_digit
digit_is k h = and_both _ _ (le-leb 48 (48 + k) (omega arith)) (le-leb (48 + k) 57 (omega arith))

digits_one : (k : ℕ) → k < 10 → all is_digit ((48 + k) ∷ []) ≡ true
unfolding all
digits_one k h = and_both (is_digit (48 + k)) true (digit_is k h) refl

-- all are digits, at least one and few enough
digits_all : (n k : ℕ) → all is_digit (digits_to n k) ≡ true
unfolding digits_to
digits_all zero k = digits_one (k % 10) (omega arith)
digits_all (suc n) k = go (dec_lt k 10) (digits_all n (k / 10))
  where
    go : Dec (k < 10) → all is_digit (digits_to n (k / 10)) ≡ true
        → all is_digit (cond (ltb k 10) ((48 + k) ∷ []) (digits_to n (k / 10) ++ ((48 + k % 10) ∷ []))) ≡ true
    go (yes h) e = rw (lt-ltb k 10 h) (digits_one k h)
    go (no f) e = rw (le-ltb k 10 (omega arith)) (all_append is_digit (digits_to n (k / 10)) ((48 + k % 10) ∷ []) e (digits_one (k % 10) (omega arith)))

pub digits_count : (n k : ℕ) → (1 ≤ length (digits_to n k)) × (length (digits_to n k) ≤ suc n)
unfolding digits_to
digits_count zero k = (omega arith, omega arith)
digits_count (suc n) k = go (dec_lt k 10) (digits_count n (k / 10))
  where
    go : Dec (k < 10) → (1 ≤ length (digits_to n (k / 10))) × (length (digits_to n (k / 10)) ≤ suc n)
        → (1 ≤ length (cond (ltb k 10) ((48 + k) ∷ []) (digits_to n (k / 10) ++ ((48 + k % 10) ∷ []))))
        × (length (cond (ltb k 10) ((48 + k) ∷ []) (digits_to n (k / 10) ++ ((48 + k % 10) ∷ []))) ≤ suc (suc n))
    go (yes h) e = rw (lt-ltb k 10 h) (omega arith, omega arith)
    go (no f) e = rw (le-ltb k 10 (omega arith), length-append) (omega (arith, e.0), omega (arith, e.1))

digit_value : (k : ℕ) → decimal 0 ((48 + k) ∷ []) ≡ k
unfolding decimal
digit_value k = omega arith

digits_value : (n k : ℕ) → k < tens n → decimal 0 (digits_to n k) ≡ k
unfolding digits_to tens
digits_value zero k h = let same : k % 10 ≡ k = omega arith in rw same (digit_value k)
digits_value (suc n) k h = go (dec_lt k 10) (digits_value n (k / 10) (omega arith))
  where
    go : Dec (k < 10) → decimal 0 (digits_to n (k / 10)) ≡ k / 10 → decimal 0 (cond (ltb k 10) ((48 + k) ∷ []) (digits_to n (k / 10) ++ ((48 + k % 10) ∷ []))) ≡ k
    go (yes l) e = rw (lt-ltb k 10 l) (digit_value k)
    go (no f) e =
        rw (le-ltb k 10 (omega arith), decimal_append (digits_to n (k / 10)) 0 (48 + k % 10), e) (omega arith)

-- a word of digits is fine
digit_plain : (b : ℕ) → is_digit b ≡ true → plain b ≡ true
unfolding is_digit plain parts
digit_plain b e =
    let low : 48 ≤ b = leb-true 48 b (and_left (leb 48 b) (leb b 57) e) in
    rw (ne_eqb b 32 (λ (z : b ≡ 32). omega arith), ne_eqb b 10 (λ (z : b ≡ 10). omega arith))

all_plain : (w : List ℕ) → all is_digit w ≡ true → all plain w ≡ true
unfolding all
all_plain [] e = refl
all_plain (b ∷ w) e =
    and_both (plain b) (all plain w) (digit_plain b (and_left (is_digit b) (all is_digit w) e)) (all_plain w (and_right (is_digit b) (all is_digit w) e))

pub digits_fine : (k : ℕ) → fine (digits_of k) ≡ true
unfolding fine digits_of
digits_fine k = and_both _ _ (lt-ltb 0 (length (digits_to 5 k)) (digits_count 5 k).0) (all_plain (digits_to 5 k) (digits_all 5 k))

pub number_read : (k : ℕ) → k < 1000000 → number_of (digits_of k) ≡ Is k
unfolding number_of digits_of most_digits tens
number_read k h =
    rw (lt-ltb 0 (length (digits_to 5 k)) (digits_count 5 k).0, le-leb (length (digits_to 5 k)) 6 (digits_count 5 k).1, digits_all 5 k, digits_value 5 k h)

-- a coordinate without a minus
unsigned : (w : List ℕ) → all is_digit w ≡ true → 1 ≤ length w → coordinate_of w ≡ within 32767 pos (number_of w)
unfolding all coordinate_of is_digit
unsigned [] a h = absurd (not-suc-le-zero h)
unsigned (b ∷ w) a h =
    let low : 48 ≤ b = leb-true 48 b (and_left (leb 48 b) (leb b 57) (and_left (leb 48 b && leb b 57) (all is_digit w) a)) in
    rw (ne_eqb b 45 (λ (z : b ≡ 45). omega arith))

plus_read : (n : ℕ) → n < 32768 → coordinate_of (digits_of n) ≡ Is (pos n)
unfolding digits_of within
plus_read n h = unsigned (digits_to 5 n) (digits_all 5 n) (digits_count 5 n).0 ∙ rw (number_read n (omega arith), le-leb n 32767 (omega arith))

minus_read : (n : ℕ) → n < 32768 → coordinate_of (45 ∷ digits_of (suc n)) ≡ Is (negsuc n)
unfolding coordinate_of within minus
minus_read n h = rw (number_read (suc n) (omega arith), le-leb (suc n) 32768 (omega arith))

-- a coordinate is read back, '-' and all
pub coordinate_read : (z : ℤ) → SFits w16 z → coordinate_of (coordinate_text z) ≡ Is z
unfolding coordinate_text
coordinate_read (pos n) f = plus_read n f.sfits
coordinate_read (negsuc n) f = minus_read n f.sfits

minus_fine : (w : List ℕ) → fine w ≡ true → fine (45 ∷ w) ≡ true
unfolding fine all plain parts
minus_fine w e = and_both _ _ (lt-ltb 0 (suc (length w)) (omega arith)) (and_right (ltb 0 (length w)) (all plain w) e)

pub coordinate_fine : (z : ℤ) → fine (coordinate_text z) ≡ true
unfolding coordinate_text
coordinate_fine (pos n) = digits_fine n
coordinate_fine (negsuc n) = minus_fine (digits_of (suc n)) (digits_fine (suc n))
