use Prim.Native.Nat.{◌≤◌}
use Rattle.shapes.specs.Sizes.{most_marks}
use Rattle.store.specs.Slots.{corner_in}
use Rattle.metres.proofs.Sums.{Held}
use Rattle.positions.specs.Measures.{coordinate}
use Rattle.positions.proofs.total.Given as goal

abbrev pub invariant-loop-i : goal.invariant-loop-i
invariant-loop-i l = l.n ≤ most_marks → Held (λ j. coordinate l.positions l.k (corner_in l.w l.caps l.c.0 j)) l.sum l.i
