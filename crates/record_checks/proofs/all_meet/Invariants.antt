use mathlib.Core.Path.{◌≡◌}
use lib.ListN.{drop}
use Rattle.lists.specs.Lists.{all}
use Rattle.record_checks.specs.Laid.{meets}
use Rattle.record_checks.proofs.all_meet.Given as goal

abbrev pub invariant-loop-v : goal.invariant-loop-v
invariant-loop-v l = all (meets l.w l.caps l.c.0) l.marks ≡ all (meets l.w l.caps l.c.0) (drop l.v-index l.marks)
