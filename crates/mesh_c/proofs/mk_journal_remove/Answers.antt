-- `mesh_c::mk_journal_remove` meets its contract.
use Rattle.mesh_c.proofs.Journals.{by_number}
use Rattle.mesh_c.proofs.mk_journal_remove.Goals as goal

pub returns : goal.returns
returns c = by_number _ _ c.tell_verdict.ensures c.enter_remove.ensures
