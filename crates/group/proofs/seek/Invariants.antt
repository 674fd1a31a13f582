use mathlib.Core.Path.{◌≡◌}
use Prim.Native.Nat.{ℕ, ◌<◌}
use mathlib.Core.Bool.{false}
use Rattle.group.specs.Places.{chosen_in}
use Rattle.group.proofs.seek.Given as goal

abbrev pub invariant-loop-x : goal.invariant-loop-x
invariant-loop-x l = (k : ℕ) → k < l.x → chosen_in l.w l.caps l.rows l.v.0 l.cells l.lab l.i l.only k ≡ false
