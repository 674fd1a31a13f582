-- What the check of a plan promises, told by a number: the promise of the check, of the answer with that number.
use Rattle.std.specs.Prelude.{ℕ, Result, ⊤}
use Rattle.plan_check.specs.Checked.{planned_says}
use Rattle.plan_check.specs.declared.Flaw.{Flaw}
use Rattle.c_answers.specs.Told.{Told}

-- 0 for yes, 24 with the place in its lent word, else the number of the refusal and the word as it was
pub record ByPlace (Promise : Result ⊤ Flaw → Type 0) (x r x' : ℕ) : Type 0 where
  pub planned : Result ⊤ Flaw
  pub told : Told (planned_says planned) x r x'
  pub promised : Promise planned
