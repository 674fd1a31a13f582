-- `input::part` meets its contract.
use native.Mathlib.Omega.{arith}
use Rattle.input.proofs.Lines.{part_turned, part_short, part_cut}
use Rattle.input.proofs.part.Goals as goal

pub returns-then-to-from : goal.returns-then-to-from
returns-then-to-from c = part_turned _ _ _ (omega arith)

pub returns-then-bytes-to : goal.returns-then-bytes-to
returns-then-bytes-to c = part_short _ _ _ (omega arith) (omega arith)

pub returns : goal.returns
returns c = part_cut _ _ _ (omega arith) (omega arith)
