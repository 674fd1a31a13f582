-- `record_checks::cells_ok` meets its contract.
use mathlib.Core.Path.{sym, ◌∙◌}
use native.Mathlib.Omega.{arith}
use borrow.Author.Tests.{not-true, not-false}
use Rattle.lists.proofs.Every.{every_start, every_more, every_stop, every_end}
use Rattle.record_checks.proofs.cells_ok.Goals as goal

pub loop-c-init : goal.loop-c-init
loop-c-init c = every_start _

pub returns-then-not-cell_ok : goal.returns-then-not-cell_ok
returns-then-not-cell_ok c =
    every_stop _ _ c.loop-c.c (omega arith) (sym c.cell_ok.ensures ∙ not-true _ c.if-not-cell_ok.true-raw)

pub loop-c-preserved : goal.loop-c-preserved
loop-c-preserved c =
    every_more _ c.loop-c.c c.loop-c.invariant (sym c.cell_ok.ensures ∙ not-false _ c.if-not-cell_ok.false-raw)

pub returns : goal.returns
returns c = every_end _ _ c.loop-c.c c.loop-c.invariant (omega arith) (omega arith)
