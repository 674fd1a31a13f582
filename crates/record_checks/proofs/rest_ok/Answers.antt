-- `record_checks::rest_ok` meets its contract.
use Rattle.std.proofs.Common.{arith}
use Rattle.record_checks.specs.Laid.{rest_right, licence_right}
use Rattle.record_checks.proofs.rest_ok.Goals as goal

pub returns-then-code_of-ne0 : goal.returns-then-code_of-ne0
unfolding rest_right licence_right
returns-then-code_of-ne0 c = grind arith

pub returns-else-code_of-ne0 : goal.returns-else-code_of-ne0
unfolding rest_right licence_right
returns-else-code_of-ne0 c = grind arith

pub returns-else-cell_blank : goal.returns-else-cell_blank
unfolding rest_right licence_right
returns-else-cell_blank c = grind arith
