-- `planner::write_removal` meets its contract.
use borrow.Author.Tests.{not-true, not-false}
use Rattle.planner.proofs.Removing.{removal_none, removal_one}
use Rattle.planner.proofs.write_removal.Goals as goal

pub returns-then-not-goes : goal.returns-then-not-goes
returns-then-not-goes c = removal_none _ _ _ _ _ _ _ c.goes.ensures (not-true _ c.if-not-goes.true-raw)

pub returns : goal.returns
returns c =
    removal_one _ _ _ _ _ c.goes.ensures (not-false _ c.if-not-goes.false-raw) c.add-next.ensures c.add.ensures
