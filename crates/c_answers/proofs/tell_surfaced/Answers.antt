-- `c_answers::tell_surfaced` meets its contract.
use Rattle.std.specs.Prelude.{Err}
use Rattle.c_answers.proofs.Tells.{told_none, surfaced_broken, surfaced_refused}
use Rattle.surfaces.specs.ReadsOff.{surfaced_says}
use mathlib.Core.Path.{ap, ◌∙◌}
use Rattle.c_answers.proofs.tell_surfaced.Goals as goal

pub returns-in-Ok : goal.returns-in-Ok
unfolding surfaced_says
returns-in-Ok c = told_none _ _ (ap surfaced_says c.in-Ok.is)

pub returns-in-Err-Broken : goal.returns-in-Err-Broken
returns-in-Err-Broken c = surfaced_broken _ _ _ (let s = c.in-Err-Broken.is in s ∙ ap Err (rw s at c.in-Err-Broken.field-0-is))

pub returns-in-Err-Refused : goal.returns-in-Err-Refused
returns-in-Err-Refused c = surfaced_refused _ _ _ _ _ (let s = c.in-Err-Refused.is in s ∙ ap Err (rw s at c.in-Err-Refused.field-0-is)) c.byte_of.ensures
