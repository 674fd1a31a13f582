use mathlib.Core.Path.{◌≡◌}
use mathlib.Core.Bool.{false}
use Prim.Native.Nat.{ℕ, ◌<◌}
use Rattle.border.proofs.Corners.{From, picks}
use Rattle.border.proofs.facet_at.Given as goal

abbrev pub invariant-loop-f : goal.invariant-loop-f
invariant-loop-f l = From l.bits l.f l.left × ((k : ℕ) → k < l.f → picks l.w l.caps l.c.0 l.bits l.only k ≡ false)
