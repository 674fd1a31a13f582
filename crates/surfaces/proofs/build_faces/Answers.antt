-- `surfaces::build_faces` meets its contract.
use mathlib.Core.Path.{refl}
use native.Mathlib.Omega.{arith}
use Rattle.build.proofs.Going.{build_refused}
use Rattle.surfaces.proofs.Building.{faces_begin, faces_built, faces_stopped, faces_next}
use Rattle.surfaces.proofs.build_faces.Goals as goal

pub returns-in-Err : goal.returns-in-Err
returns-in-Err c records e =
    build_refused _ records _ _ _ c.format.ensures _ c.in-Err.is _ refl

pub loop-c-init : goal.loop-c-init
loop-c-init c = faces_begin _ _ _ _ _ _ _ c.format.ensures c.in_default.is

pub returns-in-Err-insert_face : goal.returns-in-Err-insert_face
returns-in-Err-insert_face c =
    faces_stopped _ _ _ _ _ _ _ c.format.ensures c.in_default.is _ _ _ c.loop-c.invariant (omega arith) _ _ c.insert_face.ensures _ c.in-Err-insert_face.is _ _ _ _ _ c.format-in-Err-insert_face.ensures refl refl refl _ refl

pub loop-c-preserved : goal.loop-c-preserved
loop-c-preserved c =
    faces_next _ _ _ _ _ _ _ c.format.ensures c.in_default.is _ _ _ c.loop-c.invariant (omega arith) _ _ c.insert_face.ensures _ c.in-Ok.is _ refl

pub returns : goal.returns
returns c =
    faces_built _ _ _ _ _ _ _ c.format.ensures c.in_default.is _ _ _ c.loop-c.invariant (omega arith)
