-- `frames::refusal_byte` meets its contract.
use Rattle.frames.proofs.Texts.{accepted_byte, refused_byte}
use Rattle.frames.proofs.refusal_byte.Goals as goal

pub returns-in-Ok : goal.returns-in-Ok
returns-in-Ok c = accepted_byte _ c.in-Ok.is

pub returns-in-Err : goal.returns-in-Err
returns-in-Err c = refused_byte _ _ _ c.in-Err.is c.number_of.ensures
