-- `c_answers::tell_planned` meets its contract.
use Rattle.c_answers.proofs.Tells.{told_none, told_refused, planned_wrong, err_with}
use Rattle.plan_check.specs.Checked.{planned_says}
use mathlib.Core.Path.{ap}
use Rattle.c_answers.proofs.tell_planned.Goals as goal

pub returns-in-Ok : goal.returns-in-Ok
unfolding planned_says
returns-in-Ok c = told_none _ _ (ap planned_says c.in-Ok.is)

pub returns-in-Err-Wrong : goal.returns-in-Err-Wrong
returns-in-Err-Wrong c = planned_wrong _ _ _ (err_with c.in-Err-Wrong.is (rw c.in-Err-Wrong.is at c.in-Err-Wrong.field-0-is))

pub returns-in-Err-Refused : goal.returns-in-Err-Refused
unfolding planned_says
returns-in-Err-Refused c = told_refused _ _ _ _ (ap planned_says (err_with c.in-Err-Refused.is (rw c.in-Err-Refused.is at c.in-Err-Refused.field-0-is))) c.byte_of.ensures
