-- `insert_checks::same_record` meets its contract.
use mathlib.Core.Path.{◌∙◌}
use borrow.Author.Tests.{ne_eqb}
use Rattle.facet.proofs.Copy.{marks_words}
use Rattle.insert_checks.proofs.Alike.{record_other, record_same}
use Rattle.insert_checks.proofs.same_record.Goals as goal

pub returns-then-code_of-t : goal.returns-then-code_of-t
returns-then-code_of-t c = record_same _ _ _ _ _ _ c.code_of.ensures c.if-code_of-t.true _ _ (marks_words _ _ _ _ c.marks_at.ensures) c.same_set.ensures

pub returns-else-code_of-t : goal.returns-else-code_of-t
returns-else-code_of-t c =
    ne_eqb _ _ c.if-code_of-t.false ∙ record_other _ _ _ _ _ _ c.code_of.ensures c.if-code_of-t.false
