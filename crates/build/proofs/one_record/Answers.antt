-- `build::one_record` meets its contract.
use native.Mathlib.Omega.{arith}
use Rattle.build.proofs.Records.{record_short, record_made}
use Rattle.build.proofs.one_record.Goals as goal

pub returns-then-end-lt3 : goal.returns-then-end-lt3
returns-then-end-lt3 c = record_short _ _ _ _ (omega arith)

pub returns-then-end-at : goal.returns-then-end-at
returns-then-end-at c = record_short _ _ _ _ (omega arith)

pub returns : goal.returns
returns c =
    record_made _ _ _ _ _ _ _ _ _ _ _ _ (omega arith) c.word-c.ensures c.word-t.ensures (omega arith) c.word-licence.ensures (omega arith) c.part-marks.ensures.words (omega arith) (omega arith) _ _ c.insert_licensed.ensures
