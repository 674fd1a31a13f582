-- `picture::put_far` meets its contract.
use mathlib.Core.Path.{◌≡◌}
use native.Mathlib.Omega.{arith}
use borrow.Author.Tests.{not-true, not-false}
use Rattle.picture.proofs.Fills.{fills_start, far_more}
use Rattle.picture.proofs.Bodies.{fars_yes, fars_no}
use Rattle.shapes.specs.Sizes.{most_marks}
use Rattle.picture.proofs.put_far.Goals as goal

pub returns-then-not-far : goal.returns-then-not-far
returns-then-not-far c = fars_no _ _ _ _ _ (not-true _ c.if-not-far.true-raw)

pub loop-k-init : goal.loop-k-init
loop-k-init c = fills_start _ _ _ _ _

pub loop-k-preserved : goal.loop-k-preserved
loop-k-preserved c =
    far_more _ _ _ _ _ _ c.loop-k.k _ c.loop-k.invariant c.word.ensures c.write_far.ensures (omega arith)

pub returns : goal.returns
returns c = let all : c.loop-k.k ≡ most_marks = omega arith in fars_yes _ _ _ _ _ _ (rw all at c.loop-k.invariant) (not-false _ c.if-not-far.false-raw)
