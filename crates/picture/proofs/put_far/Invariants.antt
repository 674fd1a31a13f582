use Rattle.store.specs.Fields.{Far}
use Rattle.picture.specs.Writes.{Fills}
use Rattle.picture.proofs.put_far.Given as goal

abbrev pub invariant-loop-k : goal.invariant-loop-k
invariant-loop-k l = Fills Far l.caps l.c.0 l.marks l.initial.w l.k l.w
