use Rattle.whole.proofs.Afters.{Above}
use lib.ListN.{get_or}
use Rattle.whole.proofs.next_in.Given as goal

abbrev pub invariant-loop-i : goal.invariant-loop-i
invariant-loop-i l = Above l.h.0 (λ j. get_or l.list j 0) l.i
