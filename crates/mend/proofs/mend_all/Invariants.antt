use lib.ListN.{drop}
use Rattle.map.specs.Cells.{sets_of}
use Rattle.mend.specs.Mended.{Mends}
use Rattle.mend.proofs.mend_all.Given as goal

abbrev pub invariant-loop-f : goal.invariant-loop-f
invariant-loop-f l = Mends l.caps l.rows l.t l.marks l.initial.w l.w (drop l.f (sets_of l.t l.marks))
