-- `off_form::form_of` meets its contract.
use Rattle.std.proofs.lemmas.Result.{err_from_is_err_and}
use Rattle.off_form.proofs.Passing.{passed_stopped, passed_on}
use Rattle.off_form.proofs.Heads.{form_head, form_vertices, form_faces, form_more, form_is}
use Rattle.off_form.proofs.form_of.Goals as goal

pub returns-in_err-head : goal.returns-in_err-head
returns-in_err-head c =
    let p = err_from_is_err_and c.from_residual.result c.from_residual.ensures.1 in rw (p.1, p.2) (form_head _ _ c.take_head.ensures _ c.in_err-head.was)

pub returns-in_err-faces : goal.returns-in_err-faces
returns-in_err-faces c =
    let p = err_from_is_err_and c.from_residual-in_err-faces.result c.from_residual-in_err-faces.ensures.1 in rw (p.1, p.2)
    (form_vertices _ _ c.take_head.ensures _ c.in_ok-head.was _ (passed_stopped _ _ _ c.pass.ensures _ c.in_err-faces.was))

pub returns-in_err-last : goal.returns-in_err-last
returns-in_err-last c =
    let p = err_from_is_err_and c.from_residual-in_err-last.result c.from_residual-in_err-last.ensures.1 in rw (p.1, p.2)
    (form_faces _ _ c.take_head.ensures _ c.in_ok-head.was _ (passed_on _ _ _ c.pass.ensures _ c.in_ok-faces.was) _ (passed_stopped _ _ _ c.pass_faces.ensures _ c.in_err-last.was))

pub returns-in-Some : goal.returns-in-Some
returns-in-Some c = form_more _ _ c.take_head.ensures _ c.in_ok-head.was _ (passed_on _ _ _ c.pass.ensures _ c.in_ok-faces.was) _ (passed_on _ _ _ c.pass_faces.ensures _ c.in_ok-last.was) _ c.next_word.ensures _ c.in-Some.is

pub returns-in-None : goal.returns-in-None
returns-in-None c = form_is _ _ c.take_head.ensures _ c.in_ok-head.was _ (passed_on _ _ _ c.pass.ensures _ c.in_ok-faces.was) _ (passed_on _ _ _ c.pass_faces.ensures _ c.in_ok-last.was) _ c.next_word.ensures c.in-None.is
