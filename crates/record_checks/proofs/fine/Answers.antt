-- `record_checks::fine` meets its contract.
use Rattle.std.proofs.Common.{arith}
use Rattle.record_checks.specs.Laid.{fine}
use Rattle.record_checks.proofs.fine.Goals as goal

pub returns-then-not-reaches : goal.returns-then-not-reaches
unfolding fine
returns-then-not-reaches c = grind arith

pub returns-else-not-reaches : goal.returns-else-not-reaches
unfolding fine
returns-else-not-reaches c = grind arith
