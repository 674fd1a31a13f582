use Rattle.frames.specs.Forms.{Appended}
use Rattle.planner.proofs.Removing.{front}
use Rattle.planner.proofs.add_all.Given as goal

abbrev pub invariant-loop-x : goal.invariant-loop-x
invariant-loop-x l = Appended (front l.x-index l.words) l.initial.out l.at l.next l.out
