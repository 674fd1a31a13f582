use lib.ListN.{drop}
use Rattle.mend.specs.Ancs.{Anchors}
use Rattle.mend.proofs.anchor_all.Given as goal

abbrev pub invariant-loop-v : goal.invariant-loop-v
invariant-loop-v l = Anchors l.caps l.rows l.d l.marks l.initial.w l.w (drop l.v-index l.marks)
