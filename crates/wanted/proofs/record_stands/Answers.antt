-- `wanted::record_stands` meets its contract.
use native.Mathlib.Omega.{arith}
use Rattle.wanted.proofs.Standing.{stands_past, stands_at}
use Rattle.wanted.proofs.record_stands.Goals as goal

pub returns-then-records-at : goal.returns-then-records-at
returns-then-records-at c = stands_past _ _ _ _ (omega arith)

pub returns : goal.returns
returns c =
    stands_at _ _ _ _ _ _ _ _ _ _ _ _ c.word-c.ensures c.word-t.ensures (omega arith) c.word-licence.ensures (omega arith) c.part-marks.ensures.words (omega arith) (omega (arith, c.mark_count.ensures)) _ c.stands.ensures
