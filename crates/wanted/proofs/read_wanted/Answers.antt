-- `wanted::read_wanted` meets its contract.
use mathlib.Core.Path.{refl}
use Prim.Native.Nat.{◌-◌}
use native.Mathlib.Omega.{arith}
use Rattle.build.proofs.Records.{end_more}
use Rattle.wanted.proofs.Reading.{reading_end, reading_stop, reading_on}
use Rattle.map.proofs.Handed.{handed}
use Rattle.wanted.proofs.read_wanted.Goals as goal

pub loop-at-init : goal.loop-at-init
loop-at-init c = refl

pub returns-in_err-check_record : goal.returns-in_err-check_record
returns-in_err-check_record c =
    rw (handed _ _ c.from_residual.ensures.1) (reading_stop _ _ c.loop-at.invariant (omega arith) _ c.check_record.ensures _ c.in_err-check_record.was)

pub loop-at-smaller : goal.loop-at-smaller
loop-at-smaller c = omega (arith, end_more _ _ _ c.record_end-at.ensures (omega arith))

pub loop-at-preserved : goal.loop-at-preserved
loop-at-preserved c =
    reading_on _ _ c.loop-at.invariant (omega arith) _ c.check_record.ensures c.in_ok-check_record.was _ c.record_end-at.ensures

pub returns : goal.returns
returns c = reading_end _ c.loop-at.at c.loop-at.invariant (omega arith)
