-- `positions::corner_points` meets its contract.
use native.Mathlib.Omega.{arith}
use mathlib.Core.Logic.{inl, inr}
use Rattle.positions.proofs.Written.{point_none, point_more, point_all, put_or_not, origins_eight}
use Rattle.positions.proofs.corner_points.Goals as goal
use Rattle.positions.proofs.corner_points.Goals.{then-place, else-place}

pub loop-i-init : goal.loop-i-init
loop-i-init c = point_none _ _ _

pub loop-i-preserved : goal.loop-i-preserved
loop-i-preserved c =
    let few = origins_eight _ c.origins-at.ensures in
    point_more _ _ _ c.loop-i.i _ _ _ _ c.corner_of-v.ensures c.point_at-p.ensures.value c.loop-i.invariant
    (put_or_not _ _ _ _ (omega (arith, few, c.loop-i.invariant.size)) (elim c.if-place.branch [ then-place w ↦ inl (w.if-place.true, w.at-is) | else-place w ↦ inr (w.if-place.false, w.at-is) ]) (λ e. e))

pub returns : goal.returns
returns c = rw (← c.origins-at.ensures) (point_all _ _ _ c.loop-i.i _ _ (omega arith) (omega arith) c.loop-i.invariant)
