-- `plan_check::each_stands` meets its contract.
use Prim.Native.Nat.{◌-◌}
use native.Mathlib.Omega.{arith}
use borrow.Author.Tests.{not-true, not-false}
use Rattle.build.proofs.Records.{end_more}
use Rattle.plan_check.proofs.Sifting.{sift_start, sift_not, sift_twice, sift_next, sift_end}
use Rattle.plan_check.proofs.each_stands.Goals as goal

pub loop-at-init : goal.loop-at-init
loop-at-init c = sift_start _ _ _ _ _ (omega arith)

pub returns-then-not-record_stands : goal.returns-then-not-record_stands
returns-then-not-record_stands c =
    sift_not _ _ _ _ _ _ c.loop-at.invariant (omega arith) _ c.record_stands.ensures (not-true _ c.if-not-record_stands.true-raw)

pub shape_of-seen-then-not-record_stands : goal.shape_of-seen-then-not-record_stands
shape_of-seen-then-not-record_stands c = (returns-then-not-record_stands c).size

pub returns-then-has_cell : goal.returns-then-has_cell
returns-then-has_cell c =
    sift_twice _ _ _ _ _ _ c.loop-at.invariant (omega arith) _ c.word-c.ensures _ c.has_cell.ensures c.if-has_cell.true

pub shape_of-seen-then-has_cell : goal.shape_of-seen-then-has_cell
shape_of-seen-then-has_cell c = (returns-then-has_cell c).size

pub loop-at-smaller : goal.loop-at-smaller
loop-at-smaller c = omega (arith, end_more _ _ _ c.record_end-at.ensures (omega arith))

pub loop-at-preserved : goal.loop-at-preserved
loop-at-preserved c =
    sift_next _ _ _ _ _ _ c.loop-at.invariant (omega arith) _ c.word-c.ensures _ c.record_stands.ensures (not-false _ c.if-not-record_stands.false-raw) _ c.has_cell.ensures c.if-has_cell.false _ c.record_end-at.ensures _ c.put_cell.ensures

pub returns : goal.returns
returns c = sift_end _ _ _ _ c.loop-at.at _ c.loop-at.invariant (omega arith)

pub shape_of-seen : goal.shape_of-seen
shape_of-seen c = (returns c).size
