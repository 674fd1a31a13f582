use Rattle.lists.specs.Lists.{select}
use Rattle.frames.specs.Forms.{Appended}
use Rattle.planner.specs.InMemory.{removal_words, goes_in}
use Rattle.planner.proofs.write_removals.Given as goal

abbrev pub invariant-loop-c : goal.invariant-loop-c
invariant-loop-c l = Appended (removal_words (select (goes_in l.w l.caps l.standing) l.c)) l.initial.out 0 l.next l.out
