-- `sibling::turned_place` meets its contract.
use Rattle.sibling.proofs.Turned.{place_past, place_on, place_over}
use Rattle.sibling.proofs.turned_place.Goals as goal

pub returns-then-size-n : goal.returns-then-size-n
returns-then-size-n c = place_past _ _ _ c.if-size-n.true

pub returns-then-k-size : goal.returns-then-k-size
returns-then-k-size c = place_on _ _ _ c.if-k-size.true

pub returns : goal.returns
returns c = place_over _ _ _ c.if-k-size.false
