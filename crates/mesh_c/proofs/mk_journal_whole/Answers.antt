-- `mesh_c::mk_journal_whole` meets its contract.
use Rattle.mesh_c.proofs.Journals.{by_yes, by_no}
use Rattle.mesh_c.proofs.mk_journal_whole.Goals as goal

pub returns-then-whole_journal : goal.returns-then-whole_journal
returns-then-whole_journal c = by_yes _ c.if-whole_journal.true c.whole_journal.ensures

pub returns-else-whole_journal : goal.returns-else-whole_journal
returns-else-whole_journal c = by_no _ c.if-whole_journal.false c.whole_journal.ensures
