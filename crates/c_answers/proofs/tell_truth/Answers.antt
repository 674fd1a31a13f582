-- `tell::tell_truth` meets its contract.
use Rattle.c_answers.proofs.Tells.{told_given, told_refused, ok_with}
use Rattle.map.specs.Says.{truth_says}
use mathlib.Core.Path.{ap}
use Rattle.c_answers.proofs.tell_truth.Goals as goal

pub returns-in-Err : goal.returns-in-Err
unfolding truth_says
returns-in-Err c = told_refused _ _ _ _ (ap truth_says c.in-Err.is) c.byte_of.ensures

pub returns-in-Ok-true : goal.returns-in-Ok-true
unfolding truth_says
returns-in-Ok-true c = told_given _ _ _ (ap truth_says (ok_with c.in-Ok-true.is c.in-Ok-true.field-0-test))

pub returns-in-Ok-false : goal.returns-in-Ok-false
unfolding truth_says
returns-in-Ok-false c = told_given _ _ _ (ap truth_says (ok_with c.in-Ok-false.is c.in-Ok-false.field-0-test))
