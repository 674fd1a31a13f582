-- `whole::count` meets its contract.
use Rattle.whole.proofs.Readings.{counted_start, counted_few, counted_more, counted_same, counted_end}
use native.Mathlib.Omega.{arith}
use Rattle.whole.proofs.count.Goals as goal
use Rattle.whole.proofs.count.Goals.{then-code_of-t, else-code_of-t}

pub loop-c-init : goal.loop-c-init
loop-c-init c = counted_start _ _ _

pub overflow_add-n : goal.overflow_add-n
overflow_add-n c = omega (arith, counted_few _ _ _ c.loop-c.c c.loop-c.n c.loop-c.invariant)

pub loop-c-preserved : goal.loop-c-preserved
loop-c-preserved c =
    elim c.if-code_of-t.branch [
      | then-code_of-t w ↦ counted_more _ _ _ c.loop-c.c c.loop-c.n _ _ c.loop-c.invariant c.code_of.ensures w.if-code_of-t.true w.n-is
      | else-code_of-t w ↦ counted_same _ _ _ c.loop-c.c c.loop-c.n _ _ c.loop-c.invariant c.code_of.ensures w.if-code_of-t.false w.n-is
    ]

pub returns : goal.returns
returns c = counted_end _ _ _ c.loop-c.c _ c.loop-c.invariant (omega arith) (omega arith)
