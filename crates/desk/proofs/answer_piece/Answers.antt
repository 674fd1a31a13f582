-- `desk::answer_piece` meets its contract.
use mathlib.Core.Path.{refl}
use native.Mathlib.Omega.{arith}
use Rattle.desk.proofs.Turning.{taken_within, answered_so}
use Rattle.desk.proofs.answer_piece.Goals as goal

pub overflow_add-result : goal.overflow_add-result
overflow_add-result c =
    record { fits = omega (arith, taken_within _ _ c.args.at _ _ _ _ _ _ _ c.feed-fed.ensures 18446744073709551615 c.part.ensures (omega arith) (omega arith)) }

pub returns : goal.returns
returns c = answered_so _ _ _ _ _ _ _ _ _ _ c.feed-fed.ensures _ _ _ _ _ c.part.ensures c.part-2.ensures refl c.write_out-sent.ensures c.is_none.ensures
