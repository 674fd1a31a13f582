use Rattle.group.specs.Labels.{Numbered}
use Rattle.group.proofs.number.Given as goal

abbrev pub invariant-loop-j : goal.invariant-loop-j
invariant-loop-j l = Numbered l.j l.initial.lab l.lab
