use Rattle.journal_store.specs.Writes.{Copied}
use Rattle.journal_store.proofs.copy_words.Given as goal

abbrev pub invariant-loop-i : goal.invariant-loop-i
invariant-loop-i l = Copied l.from l.at l.i l.initial.to l.to
