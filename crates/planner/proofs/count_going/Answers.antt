-- `planner::count_going` meets its contract.
use native.Mathlib.Omega.{arith}
use Rattle.planner.proofs.Removing.{count_none, count_yes, count_no, count_all}
use Rattle.planner.proofs.count_going.Goals as goal
use Rattle.planner.proofs.count_going.Goals.{then-goes, else-goes}

pub loop-c-init : goal.loop-c-init
loop-c-init c = (omega arith, count_none _ _ _)

pub loop-c-preserved : goal.loop-c-preserved
loop-c-preserved c =
    elim c.if-goes.branch [
      | then-goes w ↦ (
        omega (arith, w.n-is, c.loop-c.invariant.0),
        rw w.n-is
            (count_yes _ _ _ c.loop-c.c _ c.loop-c.invariant.1 _ c.goes.ensures w.if-goes.true),
      )
      | else-goes w ↦ (
        omega (arith, w.n-is, c.loop-c.invariant.0),
        rw w.n-is
            (count_no _ _ _ c.loop-c.c _ c.loop-c.invariant.1 _ c.goes.ensures w.if-goes.false),
      )
    ]

pub returns : goal.returns
returns c = count_all _ _ _ c.loop-c.c _ c.loop-c.invariant.1 (omega arith) (omega arith)
