-- `store::first_of` meets its contract.
use native.Mathlib.Omega.{arith}
use Rattle.store.proofs.Writes.{read_at}
use Rattle.store.specs.Fields.{mark_place}
use Rattle.store.specs.Slots.{address}
use Rattle.store.specs.Layout.{mark_at}
use Rattle.store.proofs.first_of.Goals as goal

pub returns : goal.returns
unfolding address mark_place mark_at
returns c = read_at _ _ _ _ _ c.word.ensures (omega arith)
