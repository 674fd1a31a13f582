-- `settle::settle` meets its contract.
use Rattle.mend.proofs.Anchoring.{settle_step}
use Rattle.mend.proofs.settle.Goals as goal

pub returns : goal.returns
returns c =
    settle_step _ _ _ _ _ _ _ _ c.dimension.ensures c.mend_all.ensures c.anchor_all.ensures
