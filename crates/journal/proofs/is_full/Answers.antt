-- `journal::is_full` meets its contract.
use Rattle.journal.proofs.Opened.{full_told}
use Rattle.journal.proofs.is_full.Goals as goal

pub returns : goal.returns
returns c = full_told _ _ _ c.places_of.ensures c.entries_of.ensures
