-- `store::cell_blank` meets its contract.
use Rattle.store.specs.Layout.{far_at}
use Rattle.store.proofs.Rests.{cell_blank_lem}
use Rattle.store.proofs.cell_blank.Goals as goal

pub returns : goal.returns
unfolding far_at
returns c = cell_blank_lem _ _ _ _ _ c.blank_at.ensures c.far_at-far.ensures
