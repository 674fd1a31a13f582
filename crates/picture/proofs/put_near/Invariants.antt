use Rattle.store.specs.Fields.{Near}
use Rattle.picture.specs.Writes.{Fills}
use Rattle.picture.proofs.put_near.Given as goal

abbrev pub invariant-loop-k : goal.invariant-loop-k
invariant-loop-k l = Fills Near l.caps l.c.0 l.marks l.initial.w l.k l.w
