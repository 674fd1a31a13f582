-- `store::head_blank` meets its contract.
use Rattle.store.specs.Fields.{head_place}
use Rattle.store.specs.Slots.{address, read}
use Rattle.store.specs.Rests.{head_rests, blank, head_blank}
use Rattle.store.proofs.head_blank.Goals as goal

pub returns : goal.returns
unfolding head_blank head_rests blank read address head_place
returns c = c.blank_at.ensures
