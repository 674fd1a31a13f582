use Prim.Native.Nat.{◌≤◌}
use Rattle.lists.specs.Filled.{Copied}
use Rattle.star.specs.Along.{kept}
use Rattle.star.proofs.keep_dimension.Given as goal

abbrev pub invariant-loop-i : goal.invariant-loop-i
invariant-loop-i l = (l.k ≤ l.i) × Copied (kept l.w l.caps l.d l.cells l.i) l.initial.out l.k l.out
