-- `record_checks::mark_ok` meets its contract.
use mathlib.Core.Path.{sym, ◌∙◌}
use Rattle.lists.proofs.Bools.{and_no, and_yes}
use Rattle.record_checks.specs.Laid.{mark_right}
use Rattle.record_checks.proofs.mark_ok.Goals as goal

pub returns-then-mark_blank : goal.returns-then-mark_blank
unfolding mark_right
returns-then-mark_blank c = and_yes _ _ _ (sym c.mark_blank.ensures ∙ c.if-mark_blank.true) c.chain_ok.ensures

pub returns-else-mark_blank : goal.returns-else-mark_blank
unfolding mark_right
returns-else-mark_blank c = c.if-mark_blank.false ∙ and_no _ _ (sym c.mark_blank.ensures ∙ c.if-mark_blank.false)
