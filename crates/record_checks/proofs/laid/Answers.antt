-- `record_checks::laid` meets its contract.
use Rattle.std.proofs.Common.{arith}
use Rattle.record_checks.specs.Laid.{laid_in}
use Rattle.record_checks.proofs.laid.Goals as goal

pub returns-then-marks_ok : goal.returns-then-marks_ok
unfolding laid_in
returns-then-marks_ok c = grind arith

pub returns-else-marks_ok : goal.returns-else-marks_ok
unfolding laid_in
returns-else-marks_ok c = grind arith
