use Prim.Native.Nat.{◌-◌}
use lib.ListN.{length}
use Rattle.planner.proofs.Marking.{Inserting}
use Rattle.planner.proofs.write_insertions.Given as goal

abbrev pub invariant-loop-from : goal.invariant-loop-from
invariant-loop-from l = Inserting l.w l.caps l.wanted l.initial.out l.at l.from l.next l.out

abbrev pub decreases-loop-from : goal.decreases-loop-from
decreases-loop-from l = length l.wanted - l.from
