use lib.ListN.{take}
use Rattle.frames.specs.Forms.{Appended}
use Rattle.frames.specs.Frames.{cell_and_facet, each, hex}
use Rattle.frames.proofs.add_halves.Given as goal

abbrev pub invariant-loop-half : goal.invariant-loop-half
invariant-loop-half l = Appended (hex (each cell_and_facet (take l.half-index l.halves))) l.initial.out l.at l.next l.out
