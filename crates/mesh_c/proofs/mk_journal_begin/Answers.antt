-- `mesh_c::mk_journal_begin` meets its contract.
use Rattle.mesh_c.proofs.Journals.{by_number}
use Rattle.mesh_c.proofs.mk_journal_begin.Goals as goal

pub returns : goal.returns
returns c = by_number _ _ c.tell_verdict.ensures c.begin.ensures
