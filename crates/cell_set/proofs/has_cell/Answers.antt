-- `cell_set::has_cell` meets its contract.
use borrow.Author.Rules.{rules}
use borrow.Author.Tests.{le-ltb}
use Rattle.cell_set.proofs.Sets.{past_end, is_in}
use Rattle.cell_set.proofs.has_cell.Goals as goal

pub returns-then-at-cells : goal.returns-then-at-cells
returns-then-at-cells c = is_in _ _ _ (search rules)

pub returns-else-at-cells : goal.returns-else-at-cells
returns-else-at-cells c = rw (le-ltb _ _ c.if-at-cells.false) (past_end _ _ c.if-at-cells.false)
