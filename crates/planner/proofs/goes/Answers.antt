-- `planner::goes` meets its contract.
use borrow.Author.Tests.{eq-eqb}
use Rattle.planner.proofs.Removing.{goes_dead, goes_live}
use Rattle.planner.proofs.goes.Goals as goal

pub returns-then-code_of-ne0 : goal.returns-then-code_of-ne0
returns-then-code_of-ne0 c = goes_live _ _ _ _ _ c.code_of.ensures c.if-code_of-ne0.true _ c.has_cell.ensures

pub returns-else-code_of-ne0 : goal.returns-else-code_of-ne0
returns-else-code_of-ne0 c = rw (eq-eqb _ _ c.if-code_of-ne0.false) (goes_dead _ _ _ _ _ c.code_of.ensures c.if-code_of-ne0.false)
