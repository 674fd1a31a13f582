-- `year::is_folded` meets its contract.
use Rattle.year.proofs.Allowing.{folded_none, folded_some}
use Rattle.year.proofs.is_folded.Goals as goal

pub returns-in-Some : goal.returns-in-Some
returns-in-Some c = folded_some _ _ _ c.in-Some.ensures.told

pub returns-in-None : goal.returns-in-None
returns-in-None c = folded_none _ _ c.in-None.ensures.told
