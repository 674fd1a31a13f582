use mathlib.Core.Path.{◌≡◌}
use Prim.Native.Nat.{ℕ}
use Rattle.picture.specs.State.{State}
use Rattle.picture.specs.Picture.{Pic, link}
use Rattle.border.specs.First.{Beside}
use Rattle.border.proofs.Ending.{Ending}
use Rattle.border.proofs.ends_of.Given as goal

abbrev pub invariant-loop : goal.invariant-loop
invariant-loop l = ((s : State) (v : ℕ) → Pic l.w l.caps s → (b : Beside l.caps v s) → l.initial.link ≡ link l.caps s v 0 → Ending l.caps s v b l.d l.counter l.link l.any)
