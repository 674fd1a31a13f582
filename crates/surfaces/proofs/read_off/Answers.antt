-- `surfaces::read_off` meets its contract.
use mathlib.Core.Path.{refl}
use Rattle.std.proofs.lemmas.Result.{err_from_is_err_and}
use Rattle.surfaces.proofs.Answering.{read_broken, read_refused, read_stopped, read_made}
use Rattle.surfaces.proofs.read_off.Goals as goal

pub returns-in_err-form : goal.returns-in_err-form
returns-in_err-form c =
    let p = err_from_is_err_and c.from_residual.result c.from_residual.ensures.1 in
    rw (p.1, p.2) (read_broken _ _ _ _ c.form_of.ensures _ c.in_err-form.was)

pub returns-in-Err : goal.returns-in-Err
returns-in-Err c =
    let stands = c.form_of.ensures.stands _ c.in_ok-form.was in
    read_refused _ _ _ _ stands.0 stands.1 _ c.check_room.ensures _ c.in-Err.is _ refl

pub returns-in-Err-build_faces : goal.returns-in-Err-build_faces
returns-in-Err-build_faces c =
    let stands = c.form_of.ensures.stands _ c.in_ok-form.was in
    read_stopped _ _ _ _ stands.0 stands.1 _ c.check_room.ensures c.in_default.is _ _ (c.build_faces.ensures _ stands.1.faces) _ _ c.in-Err-build_faces.is

pub returns : goal.returns
returns c =
    let stands = c.form_of.ensures.stands _ c.in_ok-form.was in
    read_made _ _ _ _ stands.0 stands.1 _ c.check_room.ensures c.in_default.is _ _ (c.build_faces.ensures _ stands.1.faces) c.in_default-build_faces.is _ (λ l ws e. (c.read_words.ensures l ws e).1)
