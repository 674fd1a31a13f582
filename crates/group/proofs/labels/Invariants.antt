use Rattle.group.specs.Labels.{link_in, Merged}
use Rattle.group.proofs.Merging.{Rows}
use Rattle.group.proofs.labels.Given as goal

abbrev pub invariant-loop-a : goal.invariant-loop-a
invariant-loop-a l = Merged (link_in l.w l.caps l.rows l.v.0 l.cells) l.n (Rows l.a) l.initial.lab l.lab
