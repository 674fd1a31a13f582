use Rattle.border.specs.Corners.{Other}
use Rattle.border.proofs.Corners.{From}
use Rattle.border.proofs.other.Given as goal

abbrev pub invariant-loop-f : goal.invariant-loop-f
invariant-loop-f l = From l.bits l.f l.left × Other l.bits l.g l.found
