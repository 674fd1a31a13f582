-- `planner::write_removals` meets its contract.
use native.Mathlib.Omega.{arith}
use Rattle.frames.proofs.Append.{append_length}
use Rattle.planner.proofs.Removing.{removals_none, removals_more, removals_all}
use Rattle.planner.proofs.write_removals.Goals as goal

pub loop-c-init : goal.loop-c-init
loop-c-init c = removals_none _ _ _ _ _

pub loop-c-preserved : goal.loop-c-preserved
loop-c-preserved c =
    removals_more _ _ _ _ c.loop-c.invariant c.write_removal-next.ensures

pub shape_of-out : goal.shape_of-out
shape_of-out c = append_length _ c.loop-c.invariant

pub returns : goal.returns
returns c = removals_all _ _ _ _ (omega arith) (omega arith) c.loop-c.invariant
