-- `tell::tell_value` meets its contract.
use Rattle.c_answers.proofs.Tells.{told_refused, told_given}
use Rattle.map.specs.Says.{value_says}
use mathlib.Core.Path.{ap}
use Rattle.c_answers.proofs.tell_value.Goals as goal

pub returns-in-Err : goal.returns-in-Err
unfolding value_says
returns-in-Err c = told_refused _ _ _ _ (ap value_says c.in-Err.is) c.byte_of.ensures

pub returns-in-Ok : goal.returns-in-Ok
unfolding value_says
returns-in-Ok c = told_given _ _ _ (ap value_says c.in-Ok.is)
