-- `off::is_title` meets its contract.
use Rattle.off.proofs.Sizes.{title_alike}
use Rattle.off.proofs.is_title.Goals as goal

pub returns : goal.returns
returns c = title_alike _ _ _ c.eq.ensures c.as_slice.ensures
