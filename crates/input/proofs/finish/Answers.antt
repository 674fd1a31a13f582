-- `input::finish` meets its contract.
use native.Mathlib.Omega.{arith}
use Rattle.input.proofs.Ends.{finish_none, finish_cut}
use Rattle.input.proofs.finish.Goals as goal

pub returns-then-length-eq0 : goal.returns-then-length-eq0
returns-then-length-eq0 c = finish_none _ _ _ (omega arith) (omega arith)

pub returns : goal.returns
returns c = finish_cut _ _ _ _ _ (λ z. omega arith) (omega arith) c.write_verdict.ensures
