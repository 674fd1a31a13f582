-- `cell_set::put_cell` meets its contract.
use mathlib.Core.Path.{sym}
use lib.Seq.{set_out}
use Rattle.cell_set.proofs.put_cell.Goals as goal

pub returns-else-at-cells : goal.returns-else-at-cells
returns-else-at-cells c = sym (set_out _ _ _ c.if-at-cells.false)
