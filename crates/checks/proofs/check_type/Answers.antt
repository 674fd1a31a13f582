-- `checks::check_type` meets its contract.
use Rattle.checks.proofs.Rows.{type_none, type_good}
use Rattle.checks.proofs.check_type.Goals as goal

pub returns-then-dimension-eq0 : goal.returns-then-dimension-eq0
returns-then-dimension-eq0 c = type_none _ _ _ _ c.dimension.ensures c.if-dimension-eq0.true

pub returns : goal.returns
returns c = type_good _ _ _ _ c.dimension.ensures c.if-dimension-eq0.false
