-- `border::alone` meets its contract.
use Rattle.border.proofs.Words.{alone_is}
use Rattle.border.proofs.alone.Goals as goal

pub returns : goal.returns
returns c = alone_is _ _ _ _ _ _ c.sibling_of.ensures c.half_of-half.ensures
