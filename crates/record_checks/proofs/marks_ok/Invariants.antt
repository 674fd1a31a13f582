use mathlib.Core.Path.{◌≡◌}
use mathlib.Core.Bool.{true}
use Rattle.lists.specs.Lists.{every}
use Rattle.record_checks.specs.Laid.{mark_right}
use Rattle.record_checks.proofs.marks_ok.Given as goal

abbrev pub invariant-loop-v : goal.invariant-loop-v
invariant-loop-v l = every l.v (mark_right l.w l.caps) ≡ true
