-- `store::sibling_word` meets its contract.
use native.Mathlib.Omega.{arith}
use Rattle.store.proofs.Writes.{read_at}
use Rattle.store.specs.Fields.{cell_place}
use Rattle.store.specs.Slots.{address, place_at}
use Rattle.store.specs.Layout.{near_at}
use Rattle.store.proofs.sibling_word.Goals as goal

pub returns : goal.returns
unfolding address place_at cell_place near_at
returns c = read_at _ _ _ _ _ c.word.ensures (omega arith)
