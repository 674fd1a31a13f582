use mathlib.Core.Path.{◌≡◌}
use Rattle.std.specs.Prelude.{Ok}
use Rattle.store.specs.Open.{opened}
use Rattle.ask.proofs.Frees.{NoneFree}
use Rattle.ask.proofs.free.Given as goal

abbrev pub invariant-loop-c : goal.invariant-loop-c
invariant-loop-c l = (Ok l.caps ≡ opened l.w) × NoneFree l.w l.caps l.c
