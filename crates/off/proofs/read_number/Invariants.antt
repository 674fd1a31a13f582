use Rattle.off.proofs.Values.{Along}
use Rattle.off.proofs.read_number.Given as goal

abbrev pub invariant-loop-b : goal.invariant-loop-b
invariant-loop-b l = Along l.word l.b-index l.n
