use mathlib.Core.Path.{◌≡◌}
use Prim.Native.Nat.{◌≤◌}
use lib.ListN.{length}
use Rattle.lists.specs.Lists.{select}
use Rattle.planner.specs.InMemory.{goes_in}
use Rattle.planner.proofs.count_going.Given as goal

abbrev pub invariant-loop-c : goal.invariant-loop-c
invariant-loop-c l = (l.n ≤ l.c) × (l.n ≡ length (select (goes_in l.w l.caps l.standing) l.c))
