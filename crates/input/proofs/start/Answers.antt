-- `input::start` meets its contract.
use native.Mathlib.Omega.{arith}
use Rattle.input.proofs.Ends.{start_so}
use Rattle.input.proofs.start.Goals as goal

pub returns : goal.returns
returns c = start_so _ _ _ _ _ (omega arith) (omega arith) c.format_and_begin.ensures
