-- `record_checks::all_meet` meets its contract.
use mathlib.Core.Path.{refl, sym, ◌∙◌}
use native.Mathlib.Omega.{arith}
use borrow.Author.Tests.{not-true, not-false}
use Rattle.lists.proofs.Scan.{all_stop, all_go, all_end}
use Rattle.record_checks.proofs.all_meet.Goals as goal

pub loop-v-init : goal.loop-v-init
loop-v-init c = refl

pub returns-then-not-meets : goal.returns-then-not-meets
returns-then-not-meets c =
    all_stop _ _ c.loop-v.v-index c.loop-v.invariant (sym c.meets.ensures ∙ not-true _ c.if-not-meets.true-raw) (omega arith)

pub loop-v-preserved : goal.loop-v-preserved
loop-v-preserved c =
    all_go _ _ c.loop-v.v-index c.loop-v.invariant (sym c.meets.ensures ∙ not-false _ c.if-not-meets.false-raw) (omega arith)

pub returns : goal.returns
returns c = all_end _ _ c.loop-v.v-index c.loop-v.invariant (omega arith)
