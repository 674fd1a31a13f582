-- `group::relabel` meets its contract.
use native.Mathlib.Omega.{arith}
use Rattle.group.proofs.Merging.{partly_start, partly_yes, partly_no, partly_end}
use Rattle.group.proofs.relabel.Goals as goal
use Rattle.group.proofs.relabel.Goals.{then-word-old, else-word-old}

pub loop-j-init : goal.loop-j-init
loop-j-init c = partly_start _ _ _

pub loop-j-preserved : goal.loop-j-preserved
loop-j-preserved c =
    elim c.if-word-old.branch [
      | then-word-old w ↦ rw w.lab-is (partly_yes _ _ _ _ _ _ c.loop-j.invariant c.word.ensures _ w.if-word-old.true w.put.ensures)
      | else-word-old w ↦ rw w.lab-is (partly_no _ _ _ _ _ _ c.loop-j.invariant c.word.ensures w.if-word-old.false)
    ]

pub returns : goal.returns
returns c = partly_end c.loop-j.j _ _ _ _ _ c.loop-j.invariant (omega arith) (omega arith)
