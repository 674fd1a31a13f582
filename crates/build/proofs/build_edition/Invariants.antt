use Prim.Native.Nat.{◌-◌}
use lib.ListN.{length}
use Rattle.numbers.specs.Sizes.{caps_under}
use Rattle.build.proofs.Going.{Going}
use Rattle.build.proofs.build_edition.Given as goal

abbrev pub invariant-loop-at : goal.invariant-loop-at
invariant-loop-at l = Going l.initial.w (caps_under l.edition l.marks l.cells) l.records l.at l.place l.w

abbrev pub decreases-loop-at : goal.decreases-loop-at
decreases-loop-at l = length l.records - l.at
