use mathlib.Core.Path.{◌≡◌}
use Rattle.picture.specs.State.{State}
use Rattle.picture.specs.Picture.{Pic, link}
use Rattle.chain.specs.Chain.{Linked}
use Rattle.chain.proofs.Walks.{Searching}
use Rattle.chain.proofs.find.Given as goal

abbrev pub invariant-loop : goal.invariant-loop
invariant-loop l = ((s : State) (v : _) → Pic l.w l.caps s → Linked l.caps s → l.initial.after ≡ link l.caps s v 0 → Searching l.caps s v l.c.0 l.before l.after l.counter)
