use Rattle.record_checks.proofs.Steps.{Looking}
use Rattle.record_checks.proofs.meets.Given as goal

abbrev pub invariant-loop : goal.invariant-loop
invariant-loop l = Looking l.w l.caps l.c.0 l.initial.link l.counter l.link
