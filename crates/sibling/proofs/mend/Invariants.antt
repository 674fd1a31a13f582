use Rattle.picture.specs.Step.{Step}
use Rattle.sibling.specs.Shared.{MayMend}
use Rattle.sibling.proofs.Mended.{mended_to}
use Rattle.sibling.proofs.mend.Given as goal

abbrev pub invariant-loop-i : goal.invariant-loop-i
invariant-loop-i l = Step l.caps l.initial.w l.w (MayMend l.caps l.rows l.set) (mended_to l.caps l.set l.i)
