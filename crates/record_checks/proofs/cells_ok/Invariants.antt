use mathlib.Core.Path.{◌≡◌}
use mathlib.Core.Bool.{true}
use Rattle.lists.specs.Lists.{every}
use Rattle.record_checks.specs.Laid.{cell_right}
use Rattle.record_checks.proofs.cells_ok.Given as goal

abbrev pub invariant-loop-c : goal.invariant-loop-c
invariant-loop-c l = every l.c (cell_right l.w l.caps) ≡ true
