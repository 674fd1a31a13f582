use Rattle.border.proofs.Corners.{From}
use Rattle.border.proofs.cell_out.Given as goal

abbrev pub invariant-loop-f : goal.invariant-loop-f
invariant-loop-f l = From l.bits l.f l.left
