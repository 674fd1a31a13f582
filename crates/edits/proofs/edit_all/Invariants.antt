use Prim.Native.Nat.{◌-◌}
use lib.ListN.{length}
use Rattle.edits.proofs.Going.{Going}
use Rattle.edits.proofs.edit_all.Given as goal

abbrev pub invariant-loop-at : goal.invariant-loop-at
invariant-loop-at l = Going l.initial.w l.list l.at l.made l.w

abbrev pub decreases-loop-at : goal.decreases-loop-at
decreases-loop-at l = length l.list - l.at
