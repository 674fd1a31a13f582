use Rattle.insert_checks.proofs.Faces.{NoneTo}
use Rattle.insert_checks.proofs.one_full.Given as goal

abbrev pub invariant-loop-f : goal.invariant-loop-f
invariant-loop-f l = NoneTo l.w l.caps l.t l.marks l.rows l.f
