-- `off_lines::number_length` meets its contract.
use native.Mathlib.Omega.{arith}
use Rattle.off_lines.proofs.Lengths.{counting_start, counting_on, counting_end, counting_done}
use Rattle.off_lines.proofs.number_length.Goals as goal

pub loop-bytes-init : goal.loop-bytes-init
loop-bytes-init c = counting_start _

pub returns-then-rest-lt10 : goal.returns-then-rest-lt10
returns-then-rest-lt10 c = counting_done _ _ _ _ c.loop-bytes.invariant c.if-rest-lt10.true

pub loop-bytes-preserved : goal.loop-bytes-preserved
loop-bytes-preserved c = counting_on _ _ _ c.loop-bytes.invariant (omega arith) (omega arith)

pub returns : goal.returns
returns c = counting_end _ _ _ c.loop-bytes.invariant (omega arith)
