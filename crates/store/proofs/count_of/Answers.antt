-- `store::count_of` meets its contract.
use native.Mathlib.Omega.{arith}
use Rattle.store.proofs.Writes.{read_at}
use Rattle.store.specs.Fields.{head_place}
use Rattle.store.specs.Slots.{address}
use Rattle.store.proofs.count_of.Goals as goal

pub returns : goal.returns
unfolding address head_place
returns c = read_at _ _ _ _ _ c.word.ensures (omega arith)
