-- `positions::write_points` meets its contract.
use native.Mathlib.Omega.{arith}
use Rattle.positions.proofs.Written.{wrote_none, wrote_point, wrote_all}
use Rattle.positions.proofs.write_points.Goals as goal

pub loop-i-init : goal.loop-i-init
loop-i-init c = wrote_none _ _ _

pub loop-i-preserved : goal.loop-i-preserved
loop-i-preserved c =
    wrote_point _ _ _ c.loop-i.i _ _ _ _ _ _ c.corner_of-v.ensures c.point_at-p.ensures.value c.loop-i.invariant c.put_float.ensures c.put_float-in-loop-i.ensures
    c.put_float-in-loop-i-2.ensures

pub returns : goal.returns
returns c = wrote_all _ _ _ c.loop-i.i _ _ (omega arith) (omega arith) c.loop-i.invariant
