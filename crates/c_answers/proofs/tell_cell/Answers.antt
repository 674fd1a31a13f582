-- `c_answers::tell_cell` meets its contract.
use Rattle.c_answers.proofs.Tells.{found_given, found_none, found_refused, ok_with}
use Rattle.map.specs.Says.{cell_says}
use mathlib.Core.Path.{ap}
use Rattle.c_answers.proofs.tell_cell.Goals as goal

pub returns-in-Err : goal.returns-in-Err
unfolding cell_says
returns-in-Err c = found_refused _ _ _ _ _ (ap cell_says c.in-Err.is) c.byte_of.ensures

pub returns-in-Ok-None : goal.returns-in-Ok-None
unfolding cell_says
returns-in-Ok-None c = found_none _ _ _ (ap cell_says (ok_with c.in-Ok-None.is (rw c.in-Ok-None.is at c.in-Ok-None.field-0-is)))

pub returns-in-Ok-Some : goal.returns-in-Ok-Some
unfolding cell_says
returns-in-Ok-Some c = found_given _ _ _ _ (ap cell_says (ok_with c.in-Ok-Some.is (rw c.in-Ok-Some.is at c.in-Ok-Some.field-0-is)))
