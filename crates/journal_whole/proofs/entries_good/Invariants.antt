use Rattle.journal_whole.proofs.Listing.{Going}
use Rattle.journal_whole.proofs.entries_good.Given as goal

abbrev pub invariant-loop-k : goal.invariant-loop-k
invariant-loop-k l = Going l.j l.first l.k l.last
