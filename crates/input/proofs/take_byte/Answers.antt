-- `input::take_byte` meets its contract.
use native.Mathlib.Omega.{arith}
use Rattle.input.proofs.Going.{taken_line, taken_more}
use Rattle.input.proofs.take_byte.Goals as goal

pub returns-then-b-eq-LINE_END : goal.returns-then-b-eq-LINE_END
returns-then-b-eq-LINE_END c =
    taken_line _ _ _ _ _ _ _ _ _ _ _ (omega arith) (omega arith) c.part.ensures c.reply-next.ensures

pub returns : goal.returns
returns c = taken_more _ _ _ _ _ _ _ _ (λ z. omega arith) c.keep-kept.ensures
