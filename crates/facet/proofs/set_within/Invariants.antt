use mathlib.Core.Path.{◌≡◌}
use mathlib.Core.Bool.{true}
use Prim.Native.Nat.{ℕ, ◌<◌}
use Rattle.lists.specs.Lists.{has}
use Rattle.facet.specs.Facet.{set_mark}
use Rattle.facet.proofs.set_within.Given as goal

abbrev pub invariant-loop-k : goal.invariant-loop-k
invariant-loop-k l = ((j : ℕ) → j < l.k → has (set_mark l.rows l.t l.f l.marks j) l.set ≡ true)
