-- `group::merge_row` meets its contract.
use mathlib.Core.Path.{refl}
use native.Mathlib.Omega.{arith}
use Rattle.group.proofs.Merging.{row_none, row_more, row_end}
use Rattle.group.proofs.merge_row.Goals as goal

pub loop-b-init : goal.loop-b-init
loop-b-init c = (refl, λ below. row_none _ _ _ _)

pub loop-b-preserved : goal.loop-b-preserved
loop-b-preserved c =
    (omega arith, λ below. row_more _ _ _ _ c.loop-b.b _ _ _ (omega arith) (c.loop-b.invariant.1 below) (c.merge_pair.ensures (omega arith) below))

pub returns : goal.returns
returns c = λ below. row_end _ _ _ c.loop-b.b _ _ (c.loop-b.invariant.1 below) (omega arith)
