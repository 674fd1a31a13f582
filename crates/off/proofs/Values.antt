-- The number of a word, digit by digit.
use mathlib.Core.Path.{◌≡◌, refl, sym, ap, ◌∙◌}
use mathlib.Core.Bool.{Bool, true, false, ◌&&◌}
use mathlib.Core.List.{List, [], ◌∷◌}
use Rattle.std.specs.Prelude.{Some, None}
use Rattle.std.proofs.lemmas.Option.{none-some}
use Prim.Native.Nat.{ℕ, zero, suc, ◌+◌, ◌-◌, ◌*◌, ◌<◌, ◌≤◌}
use native.Mathlib.Numerals.{add-one}
use native.Mathlib.Omega.{arith}
use Rattle.std.proofs.Math.Nat.{mul-le-mul_left}
use borrow.Author.Tests.{lt-ltb, le-ltb, le-leb, lt-leb, leb-true}
use lib.Dec.{leb, ltb}
use lib.ListN.{length, get_or, drop, drop_of_length-le}
use lib.Seq.{drop-cons}
use Rattle.lists.specs.Lists.{all}
use Rattle.lists.proofs.Bools.{and_left, and_right}
use Rattle.lists.proofs.Below.{all_below, below_at}
use Rattle.off.specs.Numbers.{Says, Is, Breaks, is_digit, decimal, most_digits, number_of}
use Rattle.off.specs.Scan.{digit_of}
use Rattle.off.specs.Forms.{said}

-- a digit has its value, and another byte none
digit_yes : (b d : ℕ) → digit_of b ≡ Some d → (is_digit b ≡ true) × (d ≡ b - 48) × (d ≤ 9)
unfolding digit_of is_digit
digit_yes b d e = go (leb 48 b) refl (leb b 57) refl
  where
    go : (s : Bool) → leb 48 b ≡ s → (t : Bool) → leb b 57 ≡ t → (leb 48 b && leb b 57 ≡ true) × (d ≡ b - 48) × (d ≤ 9)
    go true p true q =
        let z : Some (b - 48) ≡ Some d = rw (p, q) at e in
        let same : b - 48 ≡ d = cc in
        (rw (p, q), sym same, omega (arith, leb-true b 57 q))
    go true p false q = let z : None ≡ Some d = rw (p, q) at e in absurd (none-some d z)
    go false p t q = let z : None ≡ Some d = rw p at e in absurd (none-some d z)

digit_no : (b : ℕ) → digit_of b ≡ None → is_digit b ≡ false
unfolding digit_of
digit_no b e = go (is_digit b) refl
  where
    go : (t : Bool) → is_digit b ≡ t → t ≡ false
    go true p = let z : Some (b - 48) ≡ None = rw p at e in absurd (none-some (b - 48) (sym z))
    go false p = refl

-- what was said, by what the code carries
pub said_none : {A : Type 0} (s : Says A) → None ≡ said s → s ≡ Breaks
unfolding said
said_none (Is n) e = absurd (none-some n e)
said_none Breaks e = refl

pub said_some : {A : Type 0} (s : Says A) (n : A) → Some n ≡ said s → s ≡ Is n
unfolding said
said_some (Is m) n e = cc
said_some Breaks n e = absurd (none-some n (sym e))

-- ten to the power of i
unfoldable pub power : ℕ → ℕ
power zero = 1
power (suc i) = 10 * power i

power_few : (i : ℕ) → i < 6 → power i ≤ 100000
unfolding power all_below
power_few i h = leb-true (power i) 100000 (below_at 6 (λ k. leb (power k) 100000) refl i h)

-- n is the number of the first i digits, and the rest decides
pub record Along (w : List ℕ) (i n : ℕ) : Type 0 where
  pub here : i ≤ length w
  pub small : n < power i
  pub digits : all is_digit w ≡ all is_digit (drop i w)
  pub value : decimal 0 w ≡ decimal n (drop i w)

pub along_start : (w : List ℕ) → Along w 0 0
unfolding power
along_start w = record { here = omega arith; small = omega arith; digits = refl; value = refl }

all_cons : (b : ℕ) (l : List ℕ) → is_digit b ≡ true → all is_digit (b ∷ l) ≡ all is_digit l
unfolding all
all_cons b l e = rw e

all_stops : (b : ℕ) (l : List ℕ) → is_digit b ≡ false → all is_digit (b ∷ l) ≡ false
unfolding all
all_stops b l e = rw e

decimal_cons : (n b : ℕ) (l : List ℕ) → decimal n (b ∷ l) ≡ decimal (10 * n + (b - 48)) l
unfolding decimal
decimal_cons n b l = refl

power_next : (i : ℕ) → power (i + 1) ≡ 10 * power i
unfolding power
power_next i = ap power (add-one i)

rest : (l : List ℕ) (i : ℕ) → i < length l → drop i l ≡ get_or l i 0 ∷ drop (i + 1) l
rest l i h = rw (add-one i) (drop-cons l i 0 h)

all_empty : all is_digit [] ≡ true
unfolding all
all_empty = refl

decimal_empty : (n : ℕ) → decimal n [] ≡ n
unfolding decimal
decimal_empty n = refl

and_never : (a b : Bool) → a && (b && false) ≡ false
and_never true true = refl
and_never true false = refl
and_never false b = refl

number_breaks : (w : List ℕ) → all is_digit w ≡ false → None ≡ said (number_of w)
unfolding number_of said
number_breaks w e = rw (e, and_never (ltb 0 (length w)) (leb (length w) most_digits))

number_is : (w : List ℕ) (n : ℕ) → 0 < length w → length w ≤ 6 → all is_digit w ≡ true → decimal 0 w ≡ n → Some n ≡ said (number_of w)
unfolding number_of said most_digits
number_is w n p l e v = rw (lt-ltb 0 (length w) p, le-leb (length w) 6 l, e, v)

pub number_empty : (w : List ℕ) → length w ≡ 0 → None ≡ said (number_of w)
unfolding number_of said
number_empty w e = rw (le-ltb 0 (length w) (omega arith))

pub number_long : (w : List ℕ) → 6 < length w → None ≡ said (number_of w)
unfolding number_of said most_digits
number_long w h = rw (lt-ltb 0 (length w) (omega arith), lt-leb (length w) 6 h)

module _ (w : List ℕ) (i n : ℕ) (a : Along w i n) where
  pub along_small : i < length w → length w ≤ 6 → n < 100000
  along_small h l = omega (arith, power_few i (omega arith), a.small)

  pub along_on : (d : ℕ) → i < length w → Some d ≡ digit_of (get_or w i 0) → Along w (i + 1) (10 * n + d)
  along_on d h e =
      let is = digit_yes (get_or w i 0) d (sym e) in
      let value : 10 * n + (get_or w i 0 - 48) ≡ 10 * n + d = rw is.1 in
      record {
        here = omega arith;
        small = omega (arith, power_next i, a.small, is.2);
        digits = a.digits ∙ (ap (all is_digit) (rest w i h) ∙ all_cons (get_or w i 0) (drop (i + 1) w) is.0);
        value = a.value ∙ (ap (decimal n) (rest w i h) ∙ (decimal_cons n (get_or w i 0) (drop (i + 1) w) ∙ ap (λ (k : ℕ). decimal k (drop (i + 1) w)) value));
      }

  -- a digit is below ten
  pub along_few : (d : ℕ) → Some d ≡ digit_of (get_or w i 0) → d ≤ 9
  along_few d e = (digit_yes (get_or w i 0) d (sym e)).2

  pub along_break : i < length w → None ≡ digit_of (get_or w i 0) → None ≡ said (number_of w)
  along_break h l =
      number_breaks w (a.digits ∙ (ap (all is_digit) (rest w i h) ∙ all_stops (get_or w i 0) (drop (i + 1) w) (digit_no (get_or w i 0) (sym l))))

  pub along_end : length w ≤ i → 0 < length w → length w ≤ 6 → Some n ≡ said (number_of w)
  along_end h p l =
      number_is w n p l (a.digits ∙ (ap (all is_digit) (drop_of_length-le w {i = i} h) ∙ all_empty))
      (a.value ∙ (ap (decimal n) (drop_of_length-le w {i = i} h) ∙ decimal_empty n))

-- the number of some digits is below the next power of ten
step_most : (n d p x : ℕ) → d ≤ 9 → x < (10 * n + d + 1) * p → x < (n + 1) * (10 * p)
step_most n d p x h e = omega (arith, e, mul-le-mul_left p h)

decimal_most : (n : ℕ) (l : List ℕ) → all is_digit l ≡ true → decimal n l < (n + 1) * power (length l)
unfolding decimal power all is_digit
decimal_most n [] a = omega arith
decimal_most n (b ∷ l) a =
    let most : b ≤ 57 = leb-true b 57 (and_right (leb 48 b) (leb b 57) (and_left (leb 48 b && leb b 57) (all is_digit l) a)) in
    step_most n (b - 48) (power (length l)) (decimal n (b ∷ l)) (omega arith)
    (decimal_most (10 * n + (b - 48)) l (and_right (leb 48 b && leb b 57) (all is_digit l) a))

power_six : (i : ℕ) → i ≤ 6 → power i ≤ 1000000
unfolding power all_below
power_six i h = leb-true (power i) 1000000 (below_at 7 (λ k. leb (power k) 1000000) refl i (omega arith))

-- six digits at most
pub number_small : (w : List ℕ) (n : ℕ) → number_of w ≡ Is n → n < 1000000
unfolding number_of most_digits
number_small w n e = go (ltb 0 (length w) && (leb (length w) 6 && all is_digit w)) refl
  where
    go : (t : Bool) → (ltb 0 (length w) && (leb (length w) 6 && all is_digit w)) ≡ t → n < 1000000
    go true q =
        let rest = and_right (ltb 0 (length w)) (leb (length w) 6 && all is_digit w) q in
        let few : length w ≤ 6 = leb-true (length w) 6 (and_left (leb (length w) 6) (all is_digit w) rest) in
        let most = decimal_most 0 w (and_right (leb (length w) 6) (all is_digit w) rest) in
        let same : Is (decimal 0 w) ≡ Is n = rw q at e in
        let value : decimal 0 w ≡ n = cc in
        omega (arith, most, power_six (length w) few)
    go false q = let z : Breaks ≡ Is n = rw q at e in let o : ◌≡◌ {A = ℕ} 0 1 = cc in absurd (omega arith)
