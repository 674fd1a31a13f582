use mathlib.Core.Path.{◌≡◌}
use lib.Seq.{sets}
use Rattle.lists.specs.Lists.{list_of}
use Rattle.frames.proofs.Lines.{mark_at}
use Rattle.frames.proofs.read_marks.Given as goal

abbrev pub invariant-loop-i : goal.invariant-loop-i
invariant-loop-i l = l.marks ≡ sets l.initial.marks 0 (list_of l.i (mark_at l.line))
