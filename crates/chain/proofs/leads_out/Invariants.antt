use Rattle.chain.specs.Chain.{Inner}
use Rattle.chain.proofs.leads_out.Given as goal

abbrev pub invariant-loop : goal.invariant-loop
invariant-loop l = Inner l.w l.caps l.a × Inner l.w l.caps l.b × Inner l.w l.caps l.c
