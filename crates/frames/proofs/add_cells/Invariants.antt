use lib.ListN.{take}
use Rattle.frames.specs.Forms.{Appended}
use Rattle.frames.specs.Frames.{each, hex, two_bytes}
use Rattle.frames.proofs.add_cells.Given as goal

abbrev pub invariant-loop-cell : goal.invariant-loop-cell
invariant-loop-cell l = Appended (hex (each two_bytes (take l.cell-index l.cells))) l.initial.out l.at l.next l.out
