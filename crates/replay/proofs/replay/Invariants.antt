use Rattle.mesh.specs.Run.{Run}
use Rattle.journal_store.specs.Journals.{edits_in}
use Rattle.replay.proofs.replay.Given as goal

abbrev pub invariant-loop-k : goal.invariant-loop-k
invariant-loop-k l = Run l.initial.w (edits_in l.j l.k) l.w
