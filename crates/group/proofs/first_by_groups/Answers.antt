-- `group::first_by_groups` meets its contract.
use mathlib.Core.Path.{refl}
use Rattle.group.proofs.Anchored.{first_none, first_some, first_large}
use Rattle.group.proofs.first_by_groups.Goals as goal

pub returns-then-n-eq0 : goal.returns-then-n-eq0
returns-then-n-eq0 c = first_none _ _ _ _ _ _ _ _ c.anchors_of-n.ensures refl c.if-n-eq0.true

pub returns-then-h-lt524288 : goal.returns-then-h-lt524288
returns-then-h-lt524288 c =
    first_some _ _ _ _ _ _ _ _ c.anchors_of-n.ensures refl _ c.word-h.ensures c.if-n-eq0.false

pub returns-else-h-lt524288 : goal.returns-else-h-lt524288
returns-else-h-lt524288 c =
    first_large _ _ _ _ _ _ _ _ c.anchors_of-n.ensures refl _ c.word-h.ensures c.if-n-eq0.false c.if-h-lt524288.false
