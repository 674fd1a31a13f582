use lib.ListN.{get_or}
use Rattle.lists.specs.Lists.{list_of}
use Rattle.lists.specs.Filled.{Filled}
use Rattle.mesh.proofs.copy_marks.Given as goal

abbrev pub invariant-loop-k : goal.invariant-loop-k
invariant-loop-k l = Filled (list_of l.k (λ i. get_or l.marks i 0)) l.initial.out l.out
