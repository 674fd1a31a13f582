-- `store::write_licence` meets its contract.
use mathlib.Core.Path.{refl, sym}
use native.Mathlib.Omega.{arith}
use Rattle.store.proofs.Writes.{cell_outside, write_cell}
use Rattle.store.specs.Fields.{cell_place}
use Rattle.store.specs.Slots.{address, place_at, cell_open}
use Rattle.store.specs.Layout.{near_at}
use Rattle.store.proofs.write_licence.Goals as goal

pub returns-then-caps-c : goal.returns-then-caps-c
returns-then-caps-c c = sym (cell_outside _ _ _ _ _ (omega arith))

pub returns : goal.returns
unfolding address place_at cell_place near_at cell_open
returns c = write_cell _ _ _ _ _ _ _ c.put.ensures (omega arith) (omega arith) refl
