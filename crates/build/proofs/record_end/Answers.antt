-- `build::record_end` meets its contract.
use native.Mathlib.Omega.{arith}
use Rattle.build.proofs.Records.{end_last, end_inside}
use Rattle.build.proofs.record_end.Goals as goal

pub returns-then-len-at-2 : goal.returns-then-len-at-2
returns-then-len-at-2 c = end_last _ _ _ _ c.word.ensures c.mark_count.ensures (omega arith)

pub returns : goal.returns
returns c = end_inside _ _ _ _ _ c.word.ensures c.mark_count.ensures (omega arith) (omega arith)
