-- `mend::anchor_mark` meets its contract.
use Rattle.mend.proofs.Anchoring.{anchor_step}
use Rattle.mend.proofs.anchor_mark.Goals as goal

pub returns : goal.returns
returns c =
    anchor_step _ _ _ _ _ _ _ c.first_anchor_of-first.ensures c.put_anchor.ensures
