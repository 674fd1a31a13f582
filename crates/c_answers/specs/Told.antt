-- An answer told by a number and a lent word: the number is its refusal, the word its value, or as it was where there is none.
use Rattle.std.specs.Prelude.{◌≡◌, cond, ℕ, eqb, get_or, length}
use Rattle.lists.specs.Lists.{first}
use Rattle.map.specs.Answers.{Answer}

pub record Told (a : Answer) (x r x' : ℕ) : Type 0 where
  pub number : r ≡ a.refusal
  pub value : x' ≡ first x a.values

-- two values: a second word has the second, or stays as it was
pub record ToldTwo (a : Answer) (x y r x' y' : ℕ) : Type 0 where
  pub told : Told a x r x'
  pub second : y' ≡ get_or a.values 1 y

-- a value or none: a second word tells how many there are, and stays as it was where the answer is a refusal
pub record ToldFound (a : Answer) (y x r y' x' : ℕ) : Type 0 where
  pub told : Told a x r x'
  pub found : y' ≡ cond (eqb r 0) (length a.values) y
