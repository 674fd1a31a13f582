use Prim.Native.Nat.{◌-◌}
use lib.ListN.{length}
use Rattle.planner.proofs.Marking.{Marking}
use Rattle.planner.proofs.mark_standing.Given as goal

abbrev pub invariant-loop-at : goal.invariant-loop-at
invariant-loop-at l = Marking l.w l.caps l.wanted l.initial.standing l.at l.total l.standing

abbrev pub decreases-loop-at : goal.decreases-loop-at
decreases-loop-at l = length l.wanted - l.at
