use Rattle.lists.specs.Lists.{list_of}
use Rattle.store.specs.Slots.{corner_in}
use Rattle.positions.specs.Measures.{coordinates}
use Rattle.positions.specs.Pointed.{Wrote}
use Rattle.positions.proofs.write_points.Given as goal

abbrev pub invariant-loop-i : goal.invariant-loop-i
invariant-loop-i l = Wrote (coordinates l.positions (list_of l.i (corner_in l.w l.caps l.c.0))) l.initial.out l.out
