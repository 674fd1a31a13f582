-- `store::way_of` meets its contract.
use Rattle.map.specs.Ways.{way_at}
use Rattle.store.proofs.Ways.{way_is, way_last}
use Rattle.store.proofs.way_of.Goals as goal

pub returns-in-0 : goal.returns-in-0
unfolding way_at
returns-in-0 c = way_is 0 _ _ c.sibling_word.ensures c.in-0.is

pub returns-in-1 : goal.returns-in-1
unfolding way_at
returns-in-1 c = way_is 1 _ _ c.sibling_word.ensures c.in-1.is

pub returns-in-2 : goal.returns-in-2
unfolding way_at
returns-in-2 c = way_is 2 _ _ c.sibling_word.ensures c.in-2.is

pub returns-in_default : goal.returns-in_default
unfolding way_at
returns-in_default c = way_last _ _ c.sibling_word.ensures c.in_default.in_default-own.rest.0.0.1 c.in_default.in_default-own.rest.0.1 c.in_default.in_default-own.rest.1
