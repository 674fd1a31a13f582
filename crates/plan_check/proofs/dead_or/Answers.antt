-- `plan_check::dead_or` meets its contract.
use Rattle.plan_check.proofs.Comparing.{dead_yes, live_in}
use Rattle.plan_check.proofs.dead_or.Goals as goal

pub returns-then-code_of-eq0 : goal.returns-then-code_of-eq0
returns-then-code_of-eq0 c = dead_yes _ _ _ _ _ c.code_of.ensures c.if-code_of-eq0.true

pub returns : goal.returns
returns c =
    live_in _ _ _ _ _ c.code_of.ensures c.if-code_of-eq0.false _ c.has_cell.ensures
