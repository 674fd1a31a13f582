-- `record_checks::corners_ok` meets its contract.
use mathlib.Core.Path.{sym, ◌∙◌}
use native.Mathlib.Omega.{arith}
use borrow.Author.Tests.{not-true, not-false}
use Rattle.lists.proofs.Every.{every_start, every_more, every_stop, every_end}
use Rattle.record_checks.proofs.corners_ok.Goals as goal

pub loop-k-init : goal.loop-k-init
loop-k-init c = every_start _

pub returns-then-not-corner_ok : goal.returns-then-not-corner_ok
returns-then-not-corner_ok c =
    every_stop _ _ c.loop-k.k (omega arith) (sym c.corner_ok.ensures ∙ not-true _ c.if-not-corner_ok.true-raw)

pub loop-k-preserved : goal.loop-k-preserved
loop-k-preserved c =
    every_more _ c.loop-k.k c.loop-k.invariant (sym c.corner_ok.ensures ∙ not-false _ c.if-not-corner_ok.false-raw)

pub returns : goal.returns
returns c = every_end _ _ c.loop-k.k c.loop-k.invariant (omega arith) (omega arith)
