-- What a single word says.
use Rattle.std.specs.Prelude.{Bool, cond, ◌&&◌, ◌||◌, List, [], ◌∷◌, ℕ, ◌+◌, ◌-◌, ◌*◌, eqb, leb, ltb, length, ℤ, pos, neg_ℤ}
use Rattle.lists.specs.Lists.{all, same}

-- what a word says, or that it breaks the form
pub data Says (A : Type 0) : Type 0 where
  Is : A → Says A
  Breaks : Says A

unfoldable pub is_digit : ℕ → Bool
is_digit b = leb 48 b && leb b 57

-- the number of decimal digits, after those whose number is n
unfoldable pub decimal : ℕ → List ℕ → ℕ
decimal n [] = n
decimal n (b ∷ rest) = decimal (10 * n + (b - 48)) rest

-- "A number is 1 to 6 digits"
unfoldable pub most_digits : ℕ
most_digits = 6

unfoldable pub number_of : List ℕ → Says ℕ
number_of w = cond (ltb 0 (length w) && (leb (length w) most_digits && all is_digit w)) (Is (decimal 0 w)) Breaks

-- the number with its sign, where it is at most so large
unfoldable pub within : ℕ → (ℕ → ℤ) → Says ℕ → Says ℤ
within most sign (Is n) = cond (leb n most) (Is (sign n)) Breaks
within most sign Breaks = Breaks

unfoldable pub minus : ℕ → ℤ
minus n = neg_ℤ (pos n)

-- "a coordinate may have a minus first"; "within request 4's range": a signed 16-bit number
unfoldable pub coordinate_of : List ℕ → Says ℤ
coordinate_of [] = Breaks
coordinate_of (b ∷ rest) = cond (eqb b 45) (within 32768 minus (number_of rest)) (within 32767 pos (number_of (b ∷ rest)))

-- "3 or 4"
unfoldable pub three_or_four : Says ℕ → Says ℕ
three_or_four (Is n) = cond (eqb n 3 || eqb n 4) (Is n) Breaks
three_or_four Breaks = Breaks

unfoldable pub size_of : List ℕ → Says ℕ
size_of w = three_or_four (number_of w)

-- "the word OFF"
unfoldable pub title : List ℕ
title = 79 ∷ 70 ∷ 70 ∷ []

unfoldable pub title_of : List ℕ → Says (List ℕ)
title_of w = cond (same w title) (Is w) Breaks
