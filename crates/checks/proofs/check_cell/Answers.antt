-- `checks::check_cell` meets its contract.
use Rattle.checks.proofs.Rows.{cell_outside, cell_dead, cell_live}
use Rattle.checks.proofs.check_cell.Goals as goal

pub returns-then-caps-c : goal.returns-then-caps-c
returns-then-caps-c c = cell_outside _ _ _ c.if-caps-c.true

pub returns-then-code_of-eq0 : goal.returns-then-code_of-eq0
returns-then-code_of-eq0 c = cell_dead _ _ _ c.if-caps-c.false _ c.code_of.ensures c.if-code_of-eq0.true

pub returns : goal.returns
returns c = cell_live _ _ _ c.if-caps-c.false _ c.code_of.ensures c.if-code_of-eq0.false
