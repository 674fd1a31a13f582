-- `record_checks::stands` meets its contract.
use Rattle.std.proofs.Common.{arith}
use Rattle.facet.proofs.Copy.{marks_words}
use Rattle.record_checks.specs.Laid.{stands}
use Rattle.record_checks.proofs.stands.Goals as goal

pub returns-then-c-low : goal.returns-then-c-low
unfolding stands
returns-then-c-low c = grind arith

pub returns-then-k-marks : goal.returns-then-k-marks
unfolding stands
returns-then-k-marks c = let marks = marks_words _ _ _ _ c.marks_at-marks.ensures in grind arith

pub returns-else-k-marks : goal.returns-else-k-marks
unfolding stands
returns-else-k-marks c = let marks = marks_words _ _ _ _ c.marks_at-marks.ensures in grind arith
