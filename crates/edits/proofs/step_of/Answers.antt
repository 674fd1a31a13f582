-- `edits::step_of` meets its contract.
use Rattle.edits.proofs.Turns.{step_refused, step_made}
use Rattle.edits.proofs.step_of.Goals as goal

pub returns-in-Err : goal.returns-in-Err
returns-in-Err c = step_refused _ _ _ c.in-Err.is

pub returns-in-Ok : goal.returns-in-Ok
returns-in-Ok c = step_made _ _ c.in-Ok.is
