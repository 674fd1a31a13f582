-- `store::room_of` meets its contract.
use Rattle.store.specs.Layout.{room}
use borrow.Author.Rules.{rules}
use Rattle.store.proofs.room_of.Goals as goal

pub returns : goal.returns
unfolding room
returns c = search rules
