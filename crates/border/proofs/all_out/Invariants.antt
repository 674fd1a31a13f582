use Rattle.picture.specs.State.{State}
use Rattle.picture.specs.Picture.{Pic}
use Rattle.border.specs.First.{Beside}
use Rattle.border.proofs.Walked.{Outing}
use Rattle.border.proofs.all_out.Given as goal

abbrev pub invariant-loop : goal.invariant-loop
invariant-loop l = ((s : State) → Pic l.w l.caps s → (a : Beside l.caps l.v.0 s) → Outing l.caps s l.v.0 a l.d l.counter l.link)
