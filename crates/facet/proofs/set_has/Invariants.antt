use mathlib.Core.Path.{◌≡◌}
use Prim.Native.Nat.{ℕ, ◌<◌}
use Rattle.facet.specs.Facet.{set_mark}
use Rattle.facet.proofs.set_has.Given as goal

abbrev pub invariant-loop-k : goal.invariant-loop-k
invariant-loop-k l = ((j : ℕ) → j < l.k → set_mark l.rows l.t l.f l.marks j ≡ l.v → ⊥)
