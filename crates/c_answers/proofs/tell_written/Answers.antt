-- `c_answers::tell_written` meets its contract.
use Rattle.std.specs.Prelude.{Err}
use Rattle.c_answers.proofs.Tells.{told_given, told_refused, written_other}
use Rattle.surfaces_out.specs.WritesOff.{written_says}
use mathlib.Core.Path.{ap, ◌∙◌}
use Rattle.c_answers.proofs.tell_written.Goals as goal

pub returns-in-Ok : goal.returns-in-Ok
unfolding written_says
returns-in-Ok c = told_given _ _ _ (ap written_says c.in-Ok.is)

pub returns-in-Err-NotSurface : goal.returns-in-Err-NotSurface
returns-in-Err-NotSurface c = let t = c.in-Err-NotSurface.is in written_other _ _ (t ∙ ap Err (rw t at c.in-Err-NotSurface.field-0-is))

pub returns-in-Err-Refused : goal.returns-in-Err-Refused
unfolding written_says
returns-in-Err-Refused c =
    let t = c.in-Err-Refused.is in
    told_refused _ _ _ _ (ap written_says (t ∙ ap Err (rw t at c.in-Err-Refused.field-0-is))) c.byte_of.ensures
