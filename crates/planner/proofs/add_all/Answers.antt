-- `planner::add_all` meets its contract.
use mathlib.Core.Path.{refl}
use native.Mathlib.Omega.{arith}
use Rattle.frames.proofs.Append.{append_length}
use Rattle.planner.proofs.Removing.{front_none, front_more, front_all}
use Rattle.planner.proofs.add_all.Goals as goal

pub loop-x-init : goal.loop-x-init
loop-x-init c = front_none _ _ _

pub loop-x-preserved : goal.loop-x-preserved
loop-x-preserved c = front_more _ _ c.loop-x.invariant (omega arith) _ refl c.add-next.ensures

pub shape_of-out : goal.shape_of-out
shape_of-out c = append_length _ c.loop-x.invariant

pub returns : goal.returns
returns c = front_all _ _ c.loop-x.invariant (omega arith)
