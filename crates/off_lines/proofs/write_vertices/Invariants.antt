use Rattle.frames.specs.Forms.{Appended}
use Rattle.off.specs.Writing.{vertex_lines}
use Rattle.off_lines.proofs.write_vertices.Given as goal

abbrev pub invariant-loop-v : goal.invariant-loop-v
invariant-loop-v l = Appended (vertex_lines l.v l.positions) l.initial.out l.at l.next l.out
