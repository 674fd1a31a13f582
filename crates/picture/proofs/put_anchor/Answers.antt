-- `picture::put_anchor` meets its contract.
use Rattle.picture.proofs.Writers.{anchor_step}
use Rattle.picture.proofs.put_anchor.Goals as goal

pub returns : goal.returns
returns c = anchor_step _ _ _ _ _ _ c.write_anchor.ensures
