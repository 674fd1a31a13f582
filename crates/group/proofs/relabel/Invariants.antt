use Rattle.group.proofs.Merging.{Partly}
use Rattle.group.proofs.relabel.Given as goal

abbrev pub invariant-loop-j : goal.invariant-loop-j
invariant-loop-j l = Partly l.j l.old l.new l.initial.lab l.lab
