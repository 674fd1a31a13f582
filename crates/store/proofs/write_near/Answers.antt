-- `store::write_near` meets its contract.
use mathlib.Core.Path.{refl, sym}
use native.Mathlib.Omega.{arith}
use Rattle.store.proofs.Writes.{cell_outside, field_out, field_in}
use Rattle.store.specs.Layout.{near_marks, near_at}
use Rattle.store.specs.Fields.{Near, cell_place}
use Rattle.store.specs.Slots.{address, place_at, cell_open}
use Rattle.store.proofs.write_near.Goals as goal

pub returns-then-caps-c : goal.returns-then-caps-c
returns-then-caps-c c = sym (cell_outside _ _ _ _ _ (omega arith))

pub returns-then-k-ge-NEAR_MARKS : goal.returns-then-k-ge-NEAR_MARKS
unfolding cell_open
returns-then-k-ge-NEAR_MARKS c = sym (field_out _ _ _ Near near_marks (λ k. refl) _ _ (omega arith))

pub returns : goal.returns
unfolding near_at address place_at cell_place cell_open
returns c = field_in _ _ _ Near near_marks (λ k. refl) _ _ _ _ c.put.ensures (omega arith) (omega arith) (omega arith)
