use Rattle.store.specs.Slots.{corner_in}
use Rattle.surfaces_out.proofs.Marked.{FaceBytes}
use Rattle.surfaces_out.proofs.face_length.Given as goal

abbrev pub invariant-loop-k : goal.invariant-loop-k
invariant-loop-k l = FaceBytes (corner_in l.w l.caps l.c.0) l.size l.k l.bytes
