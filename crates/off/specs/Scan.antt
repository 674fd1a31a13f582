-- How the code goes along a text: bytes that part words, and bytes that do not.
use Rattle.std.specs.Prelude.{cond, List, [], ◌∷◌, ℕ, suc, ◌-◌, Option, Some, None}
use Rattle.off.specs.Words.{parts}
use Rattle.off.specs.Numbers.{is_digit}

-- how many bytes that part words stand first
unfoldable pub gap : List ℕ → ℕ
gap [] = 0
gap (b ∷ rest) = cond (parts b) (suc (gap rest)) 0

-- how many bytes of a word stand first
unfoldable pub run : List ℕ → ℕ
run [] = 0
run (b ∷ rest) = cond (parts b) 0 (suc (run rest))

-- the value of a digit; none for another byte
unfoldable pub digit_of : ℕ → Option ℕ
digit_of b = cond (is_digit b) (Some (b - 48)) None
