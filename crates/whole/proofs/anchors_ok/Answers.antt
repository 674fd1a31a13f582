-- `whole::anchors_ok` meets its contract.
use borrow.Author.Tests.{eq-eqb, ne_eqb}
use Rattle.whole.proofs.Readings.{anchor_held}
use Rattle.whole.proofs.Loops.{sees_start, sees_more, sees_stop, sees_end}
use Rattle.whole.specs.SecondHalf.{ancs_right}
use native.Mathlib.Omega.{arith}
use Rattle.whole.proofs.anchors_ok.Goals as goal

pub loop-d-init : goal.loop-d-init
loop-d-init c = sees_start _ _ _ _

pub returns-then-anchor_of-first_anchor_of : goal.returns-then-anchor_of-first_anchor_of
unfolding ancs_right
returns-then-anchor_of-first_anchor_of c = sees_stop _ _ _ _ 3 c.loop-d.d _ (omega arith) (anchor_held _ _ _ _ _ (omega arith) _ _ c.anchor_of.ensures c.first_anchor_of.ensures) (ne_eqb _ _ c.if-anchor_of-first_anchor_of.true)

pub loop-d-preserved : goal.loop-d-preserved
loop-d-preserved c = sees_more _ _ _ _ 3 c.loop-d.d _ (omega arith) (anchor_held _ _ _ _ _ (omega arith) _ _ c.anchor_of.ensures c.first_anchor_of.ensures) c.loop-d.invariant (eq-eqb _ _ c.if-anchor_of-first_anchor_of.false)

pub returns : goal.returns
unfolding ancs_right
returns c = sees_end _ _ _ _ 3 c.loop-d.d c.loop-d.invariant (omega arith) (omega arith)
