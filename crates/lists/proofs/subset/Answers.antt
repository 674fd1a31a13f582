-- `lists::subset` meets its contract.
use borrow.Author.Tests.{not-true, not-false}
use mathlib.Core.Path.{refl, sym, ◌∙◌}
use native.Mathlib.Omega.{arith}
use Rattle.lists.proofs.Scan.{all_stop, all_go, all_end}
use Rattle.lists.proofs.subset.Goals as goal

pub loop-i-init : goal.loop-i-init
loop-i-init c = refl

pub returns-then-not-has : goal.returns-then-not-has
returns-then-not-has c = all_stop _ _ c.loop-i.i c.loop-i.invariant (sym c.has.ensures ∙ not-true _ c.if-not-has.true-raw) (omega arith)

pub loop-i-preserved : goal.loop-i-preserved
loop-i-preserved c = all_go _ _ c.loop-i.i c.loop-i.invariant (sym c.has.ensures ∙ not-false _ c.if-not-has.false-raw) (omega arith)

pub returns : goal.returns
returns c = all_end _ _ c.loop-i.i c.loop-i.invariant (omega arith)
