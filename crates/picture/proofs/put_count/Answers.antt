-- `picture::put_count` meets its contract.
use Rattle.picture.proofs.Writers.{count_step}
use Rattle.picture.proofs.put_count.Goals as goal

pub returns : goal.returns
returns c = count_step _ _ _ _ _ c.write_count.ensures
