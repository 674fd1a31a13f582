use mathlib.Core.Path.{◌≡◌}
use mathlib.Core.Bool.{true}
use Rattle.lists.specs.Lists.{every}
use Rattle.plan_check.specs.Steps.{dead_or}
use Rattle.plan_check.proofs.none_else.Given as goal

abbrev pub invariant-loop-c : goal.invariant-loop-c
invariant-loop-c l = every l.c (dead_or l.w l.caps l.seen) ≡ true
