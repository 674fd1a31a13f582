-- `group::labels` meets its contract.
use native.Mathlib.Omega.{arith}
use Rattle.group.proofs.Merging.{rows_none, rows_more, rows_end}
use Rattle.group.proofs.labels.Goals as goal

pub loop-a-init : goal.loop-a-init
loop-a-init c = rows_none _ _ _

pub loop-a-preserved : goal.loop-a-preserved
loop-a-preserved c =
    rows_more _ _ c.loop-a.a _ _ _ c.loop-a.invariant (c.merge_row.ensures (omega arith))

pub returns : goal.returns
returns c = rows_end _ _ c.loop-a.a _ _ _ c.number.ensures c.loop-a.invariant (omega arith)
