-- `picture::put_sibling` meets its contract.
use Rattle.picture.proofs.Writers.{sib_step}
use Rattle.picture.proofs.put_sibling.Goals as goal

pub returns : goal.returns
returns c = sib_step _ _ _ _ _ _ c.write_sibling.ensures
