-- `tell::tell_built` meets its contract.
use Rattle.c_answers.proofs.Tells.{told_none, built_refused}
use Rattle.map.specs.Says.{built_says}
use mathlib.Core.Path.{ap}
use Rattle.c_answers.proofs.tell_built.Goals as goal

pub returns-in-Ok : goal.returns-in-Ok
unfolding built_says
returns-in-Ok c = told_none _ _ (ap built_says c.in-Ok.is)

pub returns-in-Err : goal.returns-in-Err
returns-in-Err c = built_refused _ _ _ _ _ c.in-Err.is c.byte_of.ensures
