-- An answer with floats, told by a number and lent floats: each float has the answer's, or stays as it was where there is none.
use Rattle.std.specs.Prelude.{◌≡◌, ℕ, get_or, Float}
use Rattle.positions.specs.Replies.{Reply}
use Rattle.c_answers.specs.Told.{Told}

-- a measure: a word has the number of its kind
pub record ToldMeasure (a : Reply) (k : ℕ) (x : Float) (r k' : ℕ) (x' : Float) : Type 0 where
  pub told : Told a.answer k r k'
  pub size : x' ≡ get_or a.floats 0 x

-- a point
pub record ToldPoint (a : Reply) (x y z : Float) (r : ℕ) (x' y' z' : Float) : Type 0 where
  pub number : r ≡ a.answer.refusal
  pub first : x' ≡ get_or a.floats 0 x
  pub second : y' ≡ get_or a.floats 1 y
  pub third : z' ≡ get_or a.floats 2 z
