-- `group::place` meets its contract.
use Rattle.group.proofs.Seeking.{place_border, place_any}
use Rattle.group.proofs.place.Goals as goal

pub returns-then-x-end : goal.returns-then-x-end
returns-then-x-end c = place_border _ _ _ _ _ _ _ _ _ c.seek-x.ensures c.if-x-end.true

pub returns-else-x-end : goal.returns-else-x-end
returns-else-x-end c = place_any _ _ _ _ _ _ _ _ _ _ c.seek-x.ensures c.if-x-end.false c.seek.ensures
