use Rattle.sibling.proofs.Turned.{Agree}
use Rattle.sibling.proofs.same_turned.Given as goal

abbrev pub invariant-loop-k : goal.invariant-loop-k
invariant-loop-k l = Agree l.b l.back l.n l.a l.k
