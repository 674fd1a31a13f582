-- `store::mark_blank` meets its contract.
use Rattle.store.specs.Layout.{mark_at}
use Rattle.store.proofs.Rests.{mark_blank_lem}
use Rattle.store.proofs.mark_blank.Goals as goal

pub returns : goal.returns
unfolding mark_at
returns c = mark_blank_lem _ _ _ _ _ c.blank_at.ensures c.mark_at-at.ensures
