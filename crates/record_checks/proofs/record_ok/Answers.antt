-- `record_checks::record_ok` meets its contract.
use Rattle.std.proofs.Common.{arith}
use Rattle.facet.proofs.Copy.{marks_words}
use Rattle.record_checks.specs.Laid.{record_right}
use Rattle.record_checks.proofs.record_ok.Goals as goal

pub returns-then-facets_ok : goal.returns-then-facets_ok
unfolding record_right
returns-then-facets_ok c = let marks = marks_words _ _ _ _ c.marks_at-marks.ensures in grind arith

pub returns-else-facets_ok : goal.returns-else-facets_ok
unfolding record_right
returns-else-facets_ok c = let marks = marks_words _ _ _ _ c.marks_at-marks.ensures in grind arith
