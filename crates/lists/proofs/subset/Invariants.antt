use mathlib.Core.Path.{◌≡◌}
use lib.ListN.{drop}
use Rattle.lists.specs.Lists.{has, all}
use Rattle.lists.proofs.subset.Given as goal

abbrev pub invariant-loop-i : goal.invariant-loop-i
invariant-loop-i l = all (λ x. has x l.b) l.a ≡ all (λ x. has x l.b) (drop l.i l.a)
