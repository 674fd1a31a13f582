use mathlib.Core.Path.{◌≡◌}
use Prim.Native.Nat.{ℕ, ◌<◌}
use mathlib.Core.Bool.{false}
use Rattle.group.specs.Labels.{joins_in}
use Rattle.group.proofs.linked.Given as goal

abbrev pub invariant-loop-f : goal.invariant-loop-f
invariant-loop-f l = (k : ℕ) → k < l.f → joins_in l.w l.caps l.rows l.v.0 l.a.0 k l.b.0 ≡ false
