-- `facet::set_within` meets its contract.
use native.Mathlib.Nat.{not-suc-le-zero}
use native.Mathlib.Omega.{arith}
use borrow.Author.Count.{below_more}
use borrow.Author.Tests.{not-true, not-false}
use Rattle.facet.proofs.Copy.{set_here}
use Rattle.facet.proofs.Held.{within_stop, within_more, within_end}
use Rattle.facet.proofs.set_within.Goals as goal

pub loop-k-init : goal.loop-k-init
loop-k-init c = λ j h. absurd (not-suc-le-zero h)

pub returns-then-not-has : goal.returns-then-not-has
returns-then-not-has c =
    within_stop _ _ _ _ _ _ c.four_at_most-n.ensures c.column.ensures _ c.loop-k.k _ _
    (set_here _ _ _ _ c.loop-k.k _ _ c.column-in-loop-k.ensures c.word.ensures) c.has.ensures (omega arith) (not-true _ c.if-not-has.true-raw)

pub loop-k-preserved : goal.loop-k-preserved
loop-k-preserved c =
    below_more _ c.loop-k.k c.loop-k.invariant
    (within_more _ _ _ _ _ c.loop-k.k _ _ (set_here _ _ _ _ c.loop-k.k _ _ c.column-in-loop-k.ensures c.word.ensures)
    c.has.ensures (not-false _ c.if-not-has.false-raw))

pub returns : goal.returns
returns c =
    within_end _ _ _ _ _ _ c.four_at_most-n.ensures c.column.ensures _ c.loop-k.k c.loop-k.invariant (omega arith)
