-- `surfaces::insert_face` meets its contract.
use mathlib.Core.Path.{refl}
use native.Mathlib.Omega.{arith}
use Rattle.off_form.proofs.Passing.{took_stopped, took_got}
use Rattle.surfaces.proofs.Facing.{size_few, inserted_none, inserted_refused, inserted_made}
use Rattle.map.proofs.Handed.{handed}
use Rattle.surfaces.proofs.insert_face.Goals as goal

pub overflow_sub-size : goal.overflow_sub-size
overflow_sub-size c =
    let sized = took_got _ _ _ c.take.ensures _ _ c.in-Ok.is in
    omega (arith, size_few _ _ _ _ sized)

pub returns-in_default : goal.returns-in_default
returns-in_default c = inserted_none _ _ _ _ _ (took_stopped _ _ _ c.take.ensures _ c.in_default.is) _

pub returns-in_err-insert : goal.returns-in_err-insert
returns-in_err-insert c =
    let sized = took_got _ _ _ c.take.ensures _ _ c.in-Ok.is in
    rw (handed _ _ c.from_residual.ensures.1)
    (inserted_refused _ _ _ _ _ _ sized _ _ _ c.read_words-next.ensures (omega arith) _ refl _ c.part.ensures.words _ _ c.insert.ensures _ c.in_err-insert.was)

pub returns : goal.returns
returns c =
    let sized = took_got _ _ _ c.take.ensures _ _ c.in-Ok.is in
    inserted_made _ _ _ _ _ _ sized _ _ _ c.read_words-next.ensures (omega arith) _ refl _ c.part.ensures.words _ _ c.insert.ensures c.in_ok-insert.was _ refl
