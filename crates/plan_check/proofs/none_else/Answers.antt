-- `plan_check::none_else` meets its contract.
use mathlib.Core.Path.{sym, ◌∙◌}
use native.Mathlib.Omega.{arith}
use borrow.Author.Tests.{not-true, not-false}
use Rattle.lists.proofs.Every.{every_start, every_more, every_stop, every_end}
use Rattle.plan_check.proofs.none_else.Goals as goal

pub loop-c-init : goal.loop-c-init
loop-c-init c = every_start _

pub returns-then-not-dead_or : goal.returns-then-not-dead_or
returns-then-not-dead_or c =
    every_stop _ _ c.loop-c.c (omega arith) (sym c.dead_or.ensures ∙ not-true _ c.if-not-dead_or.true-raw)

pub loop-c-preserved : goal.loop-c-preserved
loop-c-preserved c =
    every_more _ c.loop-c.c c.loop-c.invariant (sym c.dead_or.ensures ∙ not-false _ c.if-not-dead_or.false-raw)

pub returns : goal.returns
returns c = every_end _ _ c.loop-c.c c.loop-c.invariant (omega arith) (omega arith)
