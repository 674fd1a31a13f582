-- `journal_store::kind_of` meets its contract.
use Rattle.journal_store.proofs.kind_of.Goals as goal

pub returns : goal.returns
returns c = rw c.entry_at.ensures at c.word.ensures
