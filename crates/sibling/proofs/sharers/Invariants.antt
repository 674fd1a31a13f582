use mathlib.Core.Path.{◌≡◌}
use Prim.Native.Nat.{ℕ, ◌≤◌}
use lib.ListN.{length}
use Rattle.facet.specs.Facet.{match_in}
use Rattle.picture.specs.State.{State}
use Rattle.picture.specs.Picture.{Pic, link}
use Rattle.chain.specs.Chain.{Linked}
use Rattle.sibling.proofs.Written.{Going}
use Rattle.sibling.proofs.sharers.Given as goal

abbrev pub invariant-loop : goal.invariant-loop
invariant-loop l =
    (l.n ≤ l.counter)
    × (length l.out ≡ length l.initial.out)
    × ((s : State) (v : ℕ) → Pic l.w l.caps s → Linked l.caps s → l.initial.link ≡ link l.caps s v 0 → Going (λ c. match_in l.w l.caps l.rows c l.set) l.caps s v l.initial.out l.out l.n l.counter l.link)
