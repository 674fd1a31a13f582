-- `journal_store::move_entries` meets its contract.
use native.Mathlib.Omega.{arith}
use Rattle.journal_store.proofs.Copying.{moving_start, moving_end, moving_more}
use Rattle.journal_store.proofs.move_entries.Goals as goal

pub loop-i-init : goal.loop-i-init
loop-i-init c = moving_start _ _ _ _ (omega arith)

pub loop-i-preserved : goal.loop-i-preserved
loop-i-preserved c =
    moving_more _ _ c.loop-i.i _ _ _ _ _ _ _ _ c.loop-i.invariant (omega arith) (omega arith) c.part.ensures.words (omega arith) c.word-moved.ensures (omega arith) c.put.ensures

pub returns : goal.returns
returns c = moving_end _ _ c.loop-i.i _ _ c.loop-i.invariant (omega arith)
