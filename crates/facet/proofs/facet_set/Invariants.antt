use Rattle.lists.specs.Lists.{list_of}
use Rattle.lists.specs.Filled.{Filled}
use Rattle.facet.specs.Facet.{set_mark}
use Rattle.facet.proofs.facet_set.Given as goal

abbrev pub invariant-loop-k : goal.invariant-loop-k
invariant-loop-k l = Filled (list_of l.k (set_mark l.rows l.t l.f l.marks)) l.initial.out l.out
