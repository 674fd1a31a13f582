-- `record_checks::marks_ok` meets its contract.
use mathlib.Core.Path.{sym, ◌∙◌}
use native.Mathlib.Omega.{arith}
use borrow.Author.Tests.{not-true, not-false}
use Rattle.lists.proofs.Every.{every_start, every_more, every_stop, every_end}
use Rattle.record_checks.proofs.marks_ok.Goals as goal

pub loop-v-init : goal.loop-v-init
loop-v-init c = every_start _

pub returns-then-not-mark_ok : goal.returns-then-not-mark_ok
returns-then-not-mark_ok c =
    every_stop _ _ c.loop-v.v (omega arith) (sym c.mark_ok.ensures ∙ not-true _ c.if-not-mark_ok.true-raw)

pub loop-v-preserved : goal.loop-v-preserved
loop-v-preserved c =
    every_more _ c.loop-v.v c.loop-v.invariant (sym c.mark_ok.ensures ∙ not-false _ c.if-not-mark_ok.false-raw)

pub returns : goal.returns
returns c = every_end _ _ c.loop-v.v c.loop-v.invariant (omega arith) (omega arith)
