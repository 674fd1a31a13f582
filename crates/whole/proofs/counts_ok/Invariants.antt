use Rattle.lists.specs.Lists.{every}
use Rattle.whole.specs.SecondHalf.{count_right}
use mathlib.Core.Bool.{true}
use mathlib.Core.Path.{◌≡◌}
use Rattle.whole.proofs.counts_ok.Given as goal

abbrev pub invariant-loop-t : goal.invariant-loop-t
invariant-loop-t l = (every l.t (count_right l.w l.caps) ≡ true)
