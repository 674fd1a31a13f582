-- `surfaces_out::write_face` meets its contract.
use native.Mathlib.Omega.{arith}
use Rattle.surfaces_out.proofs.Marked.{marks_none, marks_more, marks_ended}
use Rattle.surfaces_out.proofs.write_face.Goals as goal

pub loop-k-init : goal.loop-k-init
loop-k-init c = marks_none _ _ _

pub loop-k-preserved : goal.loop-k-preserved
loop-k-preserved c =
    marks_more _ _ _ c.corner_of-v.ensures c.loop-k.invariant c.add-behind.ensures c.write_number-next-in-loop-k.ensures

pub returns : goal.returns
returns c =
    marks_ended _ _ _ (omega arith) (omega arith) c.write_number-next.ensures c.loop-k.invariant c.add.ensures
