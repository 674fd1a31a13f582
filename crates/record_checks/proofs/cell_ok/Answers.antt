-- `record_checks::cell_ok` meets its contract.
use mathlib.Core.Path.{sym, ◌∙◌}
use Rattle.lists.proofs.Bools.{and_no, and_yes}
use Rattle.facet.proofs.Copy.{marks_words}
use Rattle.record_checks.specs.Laid.{cell_right}
use Rattle.record_checks.proofs.cell_ok.Goals as goal

pub returns-then-record_ok : goal.returns-then-record_ok
unfolding cell_right
returns-then-record_ok c =
    rw (← marks_words _ _ _ _ c.marks_at.ensures) (and_yes _ _ _ (sym c.record_ok.ensures ∙ c.if-record_ok.true) c.all_meet.ensures)

pub returns-else-record_ok : goal.returns-else-record_ok
unfolding cell_right
returns-else-record_ok c = c.if-record_ok.false ∙ and_no _ _ (sym c.record_ok.ensures ∙ c.if-record_ok.false)
