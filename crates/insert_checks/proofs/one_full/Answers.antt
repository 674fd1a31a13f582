-- `insert_checks::one_full` meets its contract.
use native.Mathlib.Omega.{arith}
use Rattle.insert_checks.proofs.Faces.{none_start, none_more, one_there, none_there}
use Rattle.insert_checks.proofs.one_full.Goals as goal

pub loop-f-init : goal.loop-f-init
loop-f-init c = none_start _ _ _ _ _

pub returns-then-face_full : goal.returns-then-face_full
returns-then-face_full c =
    one_there _ _ _ _ _ c.loop-f.f (omega (arith, c.facet_count-n.ensures)) _ c.face_full.ensures c.if-face_full.true

pub loop-f-preserved : goal.loop-f-preserved
loop-f-preserved c =
    none_more _ _ _ _ _ c.loop-f.f (omega (arith, c.facet_count-n.ensures)) _ c.face_full.ensures c.loop-f.invariant
    c.if-face_full.false

pub returns : goal.returns
returns c = none_there _ _ _ _ _ c.loop-f.f c.loop-f.invariant (omega (arith, c.facet_count-n.ensures))
