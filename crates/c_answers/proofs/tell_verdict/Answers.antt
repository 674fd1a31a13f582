-- `tell::tell_verdict` meets its contract.
use Rattle.c_answers.proofs.Tells.{verdict_accepted, verdict_refused}
use Rattle.c_answers.proofs.tell_verdict.Goals as goal

pub returns-in-Ok : goal.returns-in-Ok
returns-in-Ok c = verdict_accepted _ c.in-Ok.is

pub returns-in-Err : goal.returns-in-Err
returns-in-Err c = verdict_refused _ _ _ c.in-Err.is c.byte_of.ensures
