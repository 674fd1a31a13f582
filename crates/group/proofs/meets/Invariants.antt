use mathlib.Core.Path.{◌≡◌}
use Prim.Native.Nat.{◌-◌}
use Rattle.numbers.specs.Sizes.{most_around}
use Rattle.group.specs.Labels.{meets_in, met_in}
use Rattle.group.proofs.meets.Given as goal

abbrev pub invariant-loop : goal.invariant-loop
invariant-loop l = meets_in l.w l.caps l.start.0 l.b.0 (most_around - l.counter) l.h.0 ≡ met_in l.w l.caps l.start.0 l.b.0
