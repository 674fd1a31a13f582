use Rattle.off_lines.proofs.Lengths.{Summed}
use Rattle.off_lines.proofs.vertices_length.Given as goal

abbrev pub invariant-loop-v : goal.invariant-loop-v
invariant-loop-v l = Summed l.positions l.v l.bytes
