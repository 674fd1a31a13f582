use mathlib.Core.Path.{◌≡◌}
use mathlib.Core.Bool.{false}
use Prim.Native.Nat.{ℕ, ◌<◌}
use Rattle.lists.specs.Lists.{same_set}
use Rattle.facet.specs.Facet.{set_in}
use Rattle.facet.proofs.first_facet.Given as goal

abbrev pub invariant-loop-f : goal.invariant-loop-f
invariant-loop-f l = ((k : ℕ) → k < l.f → same_set l.set (set_in l.rows l.t k l.marks) ≡ false)
