-- `planner::write_insertions` meets its contract.
use mathlib.Core.Path.{refl}
use Prim.Native.Nat.{◌-◌}
use native.Mathlib.Omega.{arith}
use Rattle.build.proofs.Records.{end_more}
use Rattle.frames.proofs.Append.{append_length}
use Rattle.planner.proofs.Marking.{inserting_start, inserting_next, inserting_done}
use Rattle.planner.proofs.write_insertions.Goals as goal

pub loop-from-init : goal.loop-from-init
loop-from-init c = inserting_start _ _ _ _ _ _ (omega arith)

pub overflow_sub-end : goal.overflow_sub-end
overflow_sub-end c = omega (arith, end_more _ _ _ c.record_end-end.ensures (omega arith))

pub loop-from-smaller : goal.loop-from-smaller
loop-from-smaller c =
    omega (arith, end_more _ _ _ c.record_end-end.ensures (omega arith))

pub loop-from-preserved : goal.loop-from-preserved
loop-from-preserved c =
    inserting_next _ _ _ _ _ _ _ _ c.loop-from.invariant (omega arith) _ c.record_end-end.ensures _ refl _ _ c.write_insertion-next.ensures

pub shape_of-out : goal.shape_of-out
shape_of-out c = append_length _ c.loop-from.invariant.appended

pub returns : goal.returns
returns c = inserting_done _ _ _ _ _ _ _ _ c.loop-from.invariant (omega arith)
