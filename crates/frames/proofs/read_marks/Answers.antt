-- `frames::read_marks` meets its contract.
use mathlib.Core.Path.{refl}
use native.Mathlib.Omega.{arith}
use Rattle.frames.proofs.Lines.{mark_at, store_start, store_more, marks_none, marks_all}
use Rattle.frames.proofs.read_marks.Goals as goal

pub returns-then-line-lt6 : goal.returns-then-line-lt6
returns-then-line-lt6 c = marks_none _ _ c.if-line-lt6.true

pub loop-i-init : goal.loop-i-init
loop-i-init c = store_start _ _

pub loop-i-preserved : goal.loop-i-preserved
unfolding mark_at
loop-i-preserved c = store_more _ _ c.loop-i.i _ _ _ c.loop-i.invariant c.put.ensures c.number_at.ensures

pub returns : goal.returns
returns c = marks_all _ _ c.loop-i.i _ _ refl (omega arith) (omega arith) c.loop-i.invariant
