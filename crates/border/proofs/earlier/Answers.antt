-- `border::earlier` meets its contract.
use Rattle.border.proofs.Corners.{earlier_none, earlier_some}
use Rattle.border.proofs.earlier.Goals as goal

pub returns-then-found-eq0 : goal.returns-then-found-eq0
returns-then-found-eq0 c = earlier_none _ _ _ c.if-found-eq0.true c.half_at.ensures

pub returns : goal.returns
returns c = earlier_some _ _ c.if-found-eq0.false
