use Rattle.reply.specs.Memory.{memory}
use Rattle.input.proofs.Going.{Going}
use Rattle.input.proofs.feed.Given as goal

abbrev pub invariant-loop-i : goal.invariant-loop-i
invariant-loop-i l =
    Going (memory l.initial.mesh l.initial.journal l.initial.starting) l.initial.line l.length l.piece l.initial.out (memory l.mesh l.journal l.starting) l.line l.out l.n l.i l.at
