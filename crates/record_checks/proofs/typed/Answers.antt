-- `record_checks::typed` meets its contract.
use Rattle.std.proofs.Common.{arith}
use Rattle.record_checks.specs.Laid.{typed}
use Rattle.record_checks.proofs.typed.Goals as goal

pub returns-then-code-eq0 : goal.returns-then-code-eq0
unfolding typed
returns-then-code-eq0 c = grind arith

pub returns-else-code-eq0 : goal.returns-else-code-eq0
unfolding typed
returns-else-code-eq0 c = grind arith
