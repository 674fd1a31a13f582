-- `group::anchors_of` meets its contract.
use mathlib.Core.Path.{refl}
use Rattle.group.proofs.Anchored.{anchors_gives, anchors_none}
use Rattle.group.proofs.anchors_of.Goals as goal

pub returns-then-n-eq0 : goal.returns-then-n-eq0
returns-then-n-eq0 c = anchors_none _ _ _ _ _ _ _ _ _ c.star_of-n.ensures refl c.if-n-eq0.true

pub returns : goal.returns
returns c =
    anchors_gives _ _ _ _ _ _ _ _ _ _ _ _ _ c.star_of-n.ensures refl c.labels.ensures refl c.list.ensures
