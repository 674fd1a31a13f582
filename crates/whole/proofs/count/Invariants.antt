use Rattle.whole.proofs.Readings.{Counted}
use Rattle.whole.proofs.count.Given as goal

abbrev pub invariant-loop-c : goal.invariant-loop-c
invariant-loop-c l = Counted l.w l.caps l.t l.c l.n
