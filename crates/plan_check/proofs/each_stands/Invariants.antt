use Prim.Native.Nat.{◌-◌}
use lib.ListN.{length}
use Rattle.plan_check.proofs.Sifting.{Sifting}
use Rattle.plan_check.proofs.each_stands.Given as goal

abbrev pub invariant-loop-at : goal.invariant-loop-at
invariant-loop-at l = Sifting l.w l.caps l.records l.initial.seen l.at l.seen

abbrev pub decreases-loop-at : goal.decreases-loop-at
decreases-loop-at l = length l.records - l.at
