use Rattle.lists.specs.Lists.{list_of}
use Rattle.store.specs.Slots.{corner_in}
use Rattle.frames.specs.Forms.{Appended}
use Rattle.surfaces_out.proofs.Marked.{spaced}
use Rattle.surfaces_out.proofs.write_face.Given as goal

abbrev pub invariant-loop-k : goal.invariant-loop-k
invariant-loop-k l = Appended (spaced (list_of l.k (corner_in l.w l.caps l.c.0))) l.initial.out l.initial.next l.next l.out
