-- `frames::add_cells` meets its contract.
use mathlib.Core.Path.{refl}
use native.Mathlib.Omega.{arith}
use Rattle.frames.specs.Frames.{two_bytes}
use Rattle.frames.proofs.Texts.{each_none, each_more, each_all}
use Rattle.frames.proofs.add_cells.Goals as goal

pub loop-cell-init : goal.loop-cell-init
loop-cell-init c = each_none two_bytes c.args.cells.now _ _

pub loop-cell-preserved : goal.loop-cell-preserved
loop-cell-preserved c =
    each_more two_bytes _ c.loop-cell.cell-index _ (omega arith) refl c.loop-cell.invariant c.add_number-next.ensures

pub returns : goal.returns
returns c = each_all two_bytes _ c.loop-cell.cell-index (omega arith) c.loop-cell.invariant
