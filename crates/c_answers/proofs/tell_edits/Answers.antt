-- `c_answers::tell_edits` meets its contract.
use Rattle.c_answers.proofs.Tells.{told_given, edits_stopped}
use Rattle.map.specs.Says.{edits_says}
use mathlib.Core.Path.{ap}
use Rattle.c_answers.proofs.tell_edits.Goals as goal

pub returns-in-Ok : goal.returns-in-Ok
unfolding edits_says
returns-in-Ok c = told_given _ _ _ (ap edits_says c.in-Ok.is)

pub returns-in-Err : goal.returns-in-Err
returns-in-Err c = edits_stopped _ _ _ _ _ c.in-Err.is c.byte_of.ensures
