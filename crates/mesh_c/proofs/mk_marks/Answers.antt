-- `mesh_c::mk_marks` meets its contract.
use mathlib.Core.Path.{refl, sym, ◌∙◌}
use native.Mathlib.Omega.{arith}
use Rattle.mesh_c.proofs.Places.{marks_none, marks_refused, marks_outside, marks_given}
use Rattle.store.proofs.Shut.{only_refusal}
use Rattle.mesh_c.proofs.mk_marks.Goals as goal

pub returns-in_default : goal.returns-in_default
returns-in_default c = marks_none _ (only_refusal _ _ (sym c.in_default.is ∙ c.«open».ensures)) _ _ _ _ c.byte_of.ensures

pub returns-then-mesh-n : goal.returns-then-mesh-n
returns-then-mesh-n c =
    marks_outside _ _ _ c.type_of.ensures _ _ _ (sym c.in-Ok.is ∙ c.«open».ensures) _ c.in-Ok-type_of.is _ _ c.mark_count-n.ensures c.marks_place-place.ensures (omega (arith, c.if-mesh-n.true)) _ c.byte_of-then-mesh-n.ensures

pub returns-then-mesh-n-2 : goal.returns-then-mesh-n-2
returns-then-mesh-n-2 c =
    marks_outside _ _ _ c.type_of.ensures _ _ _ (sym c.in-Ok.is ∙ c.«open».ensures) _ c.in-Ok-type_of.is _ _ c.mark_count-n.ensures c.marks_place-place.ensures (omega (arith, c.if-mesh-n-2.true, c.if-mesh-n.false)) _ c.byte_of-then-mesh-n-2.ensures

pub returns-in-Err : goal.returns-in-Err
returns-in-Err c = marks_refused _ _ _ c.type_of.ensures _ _ _ c.in-Err.is _ c.byte_of-in-Err.ensures

pub returns-else-mesh-n-2 : goal.returns-else-mesh-n-2
returns-else-mesh-n-2 c =
    marks_given _ _ _ c.type_of.ensures _ _ _ (sym c.in-Ok.is ∙ c.«open».ensures) _ c.in-Ok-type_of.is _ _ c.mark_count-n.ensures c.marks_place-place.ensures (omega (arith, c.if-mesh-n-2.false, c.if-mesh-n.false)) _ _ (omega arith) (λ small. omega (arith, small)) refl
