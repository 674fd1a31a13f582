use Rattle.journal_store.proofs.Copying.{Moving}
use Rattle.journal_store.proofs.move_entries.Given as goal

abbrev pub invariant-loop-i : goal.invariant-loop-i
invariant-loop-i l = Moving l.n l.k l.i l.initial.j l.j
