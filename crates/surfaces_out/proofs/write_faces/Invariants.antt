use Rattle.frames.specs.Forms.{Appended}
use Rattle.off.specs.Writing.{face_lines}
use Rattle.surfaces_out.specs.InMemory.{faces_in}
use Rattle.surfaces_out.proofs.write_faces.Given as goal

abbrev pub invariant-loop-c : goal.invariant-loop-c
invariant-loop-c l = Appended (face_lines (faces_in l.w l.caps l.c)) l.initial.out l.at l.next l.out
