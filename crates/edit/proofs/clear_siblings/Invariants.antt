use Prim.Native.Nat.{◌<◌}
use Rattle.picture.specs.Step.{Step}
use Rattle.edit.specs.Cleared.{cleared_to}
use Rattle.edit.proofs.clear_siblings.Given as goal

abbrev pub invariant-loop-f : goal.invariant-loop-f
invariant-loop-f l = Step l.caps l.initial.w l.w (λ s. l.c.0 < l.caps.cells) (λ s. cleared_to s l.c.0 l.f)
