use mathlib.Core.Path.{◌≡◌}
use lib.ListN.{length}
use Rattle.picture.specs.State.{State}
use Rattle.picture.specs.Picture.{Pic, link}
use Rattle.chain.specs.Chain.{Linked}
use Rattle.chain.proofs.Walks.{Walking}
use Rattle.chain.proofs.gather.Given as goal

abbrev pub invariant-loop-n : goal.invariant-loop-n
invariant-loop-n l = (length l.out ≡ length l.initial.out) × ((s : State) (v : _) → Pic l.w l.caps s → Linked l.caps s → l.initial.link ≡ link l.caps s v 0 → Walking l.caps s v l.initial.out l.out l.n l.link)
