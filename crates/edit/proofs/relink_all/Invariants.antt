use Rattle.edit.proofs.Chained.{Turns}
use Rattle.edit.proofs.relink_all.Given as goal

abbrev pub invariant-loop-k : goal.invariant-loop-k
invariant-loop-k l = Turns l.caps l.initial.w l.c.0 l.marks l.on l.w l.k
