-- `off_form::pass_face` meets its contract.
use mathlib.Core.Path.{◌∙◌}
use Rattle.std.proofs.lemmas.Result.{err_from_is_err_and}
use Rattle.off_form.proofs.Passing.{took_stopped, took_got, face_halts, face_goes}
use Rattle.off_form.proofs.pass_face.Goals as goal

pub returns-in_err-size : goal.returns-in_err-size
returns-in_err-size c i =
    let p = err_from_is_err_and c.from_residual.result c.from_residual.ensures.1 in rw (p.1, p.2) (face_halts _ _ i _ (took_stopped _ _ _ c.take.ensures _ c.in_err-size.was))

pub returns : goal.returns
returns c i =
    c.pass.ensures ∙ face_goes _ _ i _ _ (took_got _ _ _ c.take.ensures _ _ c.in_ok-size.was)
