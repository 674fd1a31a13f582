-- `edit::relink_all` meets its contract. The loop's invariant: the cell is in the chains of the first k marks, or out of them.
use native.Mathlib.Omega.{arith}
use Rattle.edit.proofs.Chained.{turns_start, turns_more, turns_end}
use Rattle.edit.proofs.relink_all.Goals as goal

pub loop-k-init : goal.loop-k-init
loop-k-init c = turns_start _ _ _ c.args.marks.now _

pub returns-then-marks-k : goal.returns-then-marks-k
returns-then-marks-k c =
    turns_end _ _ _ c.args.marks.now _ _ c.loop-k.k c.loop-k.invariant (λ l. omega arith)

pub loop-k-preserved : goal.loop-k-preserved
loop-k-preserved c =
    turns_more _ _ _ c.args.marks.now _ _ _ c.loop-k.k _ _ _ c.loop-k.invariant c.word.ensures (omega arith) (omega arith)
    c.relink.ensures (omega arith)

pub returns : goal.returns
returns c =
    turns_end _ _ _ c.args.marks.now _ _ c.loop-k.k c.loop-k.invariant (λ l. omega arith)
