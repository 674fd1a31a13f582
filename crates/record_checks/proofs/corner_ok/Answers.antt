-- `record_checks::corner_ok` meets its contract.
use Rattle.std.proofs.Common.{arith}
use Rattle.record_checks.specs.Laid.{corner_right, bare}
use Rattle.record_checks.proofs.corner_ok.Goals as goal

pub returns-then-k-marks : goal.returns-then-k-marks
unfolding corner_right bare
returns-then-k-marks c = grind arith

pub returns-else-k-marks : goal.returns-else-k-marks
unfolding corner_right bare
returns-else-k-marks c = grind arith

pub returns-else-far_of-far_mark : goal.returns-else-far_of-far_mark
unfolding corner_right bare
returns-else-far_of-far_mark c = grind arith
