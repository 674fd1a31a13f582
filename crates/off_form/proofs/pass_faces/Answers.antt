-- `off_form::pass_faces` meets its contract.
use mathlib.Core.Path.{refl}
use native.Mathlib.Omega.{arith}
use Rattle.std.proofs.lemmas.Result.{err_from_is_err_and}
use Rattle.off_form.proofs.Passing.{passed_stopped, passed_on, faces_start, faces_halt, faces_go, faces_done}
use Rattle.off_form.proofs.pass_faces.Goals as goal

pub loop-init : goal.loop-init
loop-init c = faces_start _ _ _

pub returns-in_err-at : goal.returns-in_err-at
returns-in_err-at c =
    let p = err_from_is_err_and c.from_residual.result c.from_residual.ensures.1 in rw (p.1, p.2)
    (faces_halt _ _ _ _ _ c.loop.invariant (omega arith) _ (λ i. passed_stopped _ _ _ (c.pass_face.ensures i) _ c.in_err-at.was))

pub loop-preserved : goal.loop-preserved
loop-preserved c =
    faces_go _ _ _ _ _ c.loop.invariant (omega arith) _ (λ i. passed_on _ _ _ (c.pass_face.ensures i) _ c.in_ok-at.was)

pub returns : goal.returns
returns c = faces_done _ _ _ _ _ c.loop.invariant (omega arith) _ refl
