use Prim.Native.Nat.{◌-◌, ◌≤◌}
use lib.ListN.{length}
use Rattle.reply.specs.Memory.{memory}
use Rattle.desk.proofs.Turning.{Serving}
use Rattle.desk.proofs.serve.Given as goal

abbrev pub invariant-loop : goal.invariant-loop
invariant-loop l =
    Serving (memory l.initial.mesh l.initial.journal l.initial.starting) l.initial.line (memory l.mesh l.journal l.starting) l.line l.piece l.at (18446744073709551615 - l.counter)
    × (775 ≤ length l.out)
