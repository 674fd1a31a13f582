-- `planner::mark_standing` meets its contract.
use mathlib.Core.Path.{refl}
use Prim.Native.Nat.{◌-◌}
use native.Mathlib.Omega.{arith}
use Rattle.build.proofs.Records.{end_more}
use Rattle.planner.proofs.Marking.{marking_start, marking_few, marking_next, marking_done}
use Rattle.planner.proofs.mark_standing.Goals as goal

pub loop-at-init : goal.loop-at-init
loop-at-init c = marking_start _ _ _ _ _ _ (omega arith) (omega arith)

pub overflow_sub-end : goal.overflow_sub-end
overflow_sub-end c = omega (arith, end_more _ _ _ c.record_end-end.ensures (omega arith))

pub overflow_add-end : goal.overflow_add-end
overflow_add-end c = omega (arith, c.record_end-end.ensures)

pub overflow_add-total : goal.overflow_add-total
overflow_add-total c =
    let few = marking_few _ _ _ _ _ _ _ c.loop-at.invariant (omega arith) _ c.record_end-end.ensures _ _ _ refl c.mark_record-total.ensures in
    omega (arith, few.0, few.1)

pub loop-at-smaller : goal.loop-at-smaller
loop-at-smaller c =
    omega (arith, end_more _ _ _ c.record_end-end.ensures (omega arith))

pub loop-at-preserved : goal.loop-at-preserved
loop-at-preserved c =
    marking_next _ _ _ _ _ _ _ c.loop-at.invariant (omega arith) _ c.record_end-end.ensures _ _ _ refl c.mark_record-total.ensures _ (omega arith)

pub shape_of-standing : goal.shape_of-standing
shape_of-standing c = c.loop-at.invariant.size

pub returns : goal.returns
returns c = marking_done _ _ _ _ _ _ _ c.loop-at.invariant (omega arith)
