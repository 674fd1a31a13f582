-- `group::joins` meets its contract.
use mathlib.Core.Path.{ap, ◌∙◌}
use mathlib.Core.Bool.{not}
use Rattle.group.proofs.Meeting.{joins_not, joins_mark}
use Rattle.group.proofs.joins.Goals as goal

pub returns-then-meets : goal.returns-then-meets
returns-then-meets c =
    joins_mark _ _ _ _ _ _ _ _ c.half_of.ensures _ c.meets.ensures (ap not c.if-meets.true) _ c.facet_has.ensures

pub returns-else-meets : goal.returns-else-meets
returns-else-meets c =
    c.if-meets.false ∙ joins_not _ _ _ _ _ _ _ _ c.half_of.ensures _ c.meets.ensures (ap not c.if-meets.false)
