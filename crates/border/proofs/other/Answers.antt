-- `border::other` meets its contract.
use native.Mathlib.Omega.{arith}
use Rattle.border.proofs.Corners.{from_start, from_more}
use Rattle.border.proofs.Walked.{other_start, other_more}
use Rattle.border.proofs.other.Goals as goal

pub loop-f-init : goal.loop-f-init
loop-f-init c = (from_start _, other_start _ _)

pub loop-f-preserved : goal.loop-f-preserved
loop-f-preserved c =
    (from_more _ _ _ c.loop-f.invariant.0, other_more _ _ c.loop-f.f _ _ _ (omega arith) c.loop-f.invariant.0 c.loop-f.invariant.1 c.better-found.ensures)

pub returns : goal.returns
returns c = c.loop-f.invariant.1
