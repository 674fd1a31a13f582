use mathlib.Core.Path.{◌≡◌}
use mathlib.Core.Bool.{true}
use Rattle.lists.specs.Lists.{every}
use Rattle.record_checks.specs.Laid.{facet_right}
use Rattle.record_checks.proofs.facets_ok.Given as goal

abbrev pub invariant-loop-f : goal.invariant-loop-f
invariant-loop-f l = every l.f (facet_right l.w l.caps l.c.0 l.initial.f) ≡ true
