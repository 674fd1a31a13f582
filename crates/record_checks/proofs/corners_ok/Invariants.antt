use mathlib.Core.Path.{◌≡◌}
use mathlib.Core.Bool.{true}
use Rattle.lists.specs.Lists.{every}
use Rattle.record_checks.specs.Laid.{corner_right}
use Rattle.record_checks.proofs.corners_ok.Given as goal

abbrev pub invariant-loop-k : goal.invariant-loop-k
invariant-loop-k l = every l.k (corner_right l.w l.caps l.c.0 l.marks) ≡ true
