-- `facet::facet_set` meets its contract.
use native.Mathlib.Omega.{arith}
use Rattle.lists.proofs.Mapped.{list_start, list_more}
use Rattle.facet.proofs.Copy.{set_here, set_copied}
use Rattle.facet.proofs.facet_set.Goals as goal

pub loop-k-init : goal.loop-k-init
loop-k-init c = list_start _ _

pub loop-k-preserved : goal.loop-k-preserved
loop-k-preserved c =
    list_more _ _ c.loop-k.k _ _ _ c.loop-k.invariant c.put.ensures
    (set_here _ _ _ _ c.loop-k.k _ _ c.column-in-loop-k.ensures c.word.ensures)

pub returns : goal.returns
returns c =
    set_copied _ _ _ _ _ _ _ c.loop-k.k _ c.four_at_most-n.ensures c.column.ensures c.loop-k.invariant
    (omega arith) (omega arith)
