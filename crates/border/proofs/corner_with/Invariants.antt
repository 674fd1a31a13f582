use mathlib.Core.Path.{◌≡◌}
use mathlib.Core.Bool.{false}
use Prim.Native.Nat.{ℕ, ◌<◌}
use Rattle.border.proofs.Walked.{cornered}
use Rattle.border.proofs.corner_with.Given as goal

abbrev pub invariant-loop-k : goal.invariant-loop-k
invariant-loop-k l = ((j : ℕ) → j < l.k → cornered l.w l.caps l.c.0 l.v.0 j ≡ false)
