-- `store::write_sibling` meets its contract.
use mathlib.Core.Path.{refl, sym}
use native.Mathlib.Omega.{arith}
use Rattle.map.proofs.Ways.{number_few}
use Rattle.store.proofs.Writes.{cell_outside, field_out, field_in}
use Rattle.store.specs.Layout.{near_at}
use Rattle.store.specs.Fields.{Sib, cell_place}
use Rattle.store.specs.Slots.{address, place_at, cell_open}
use Rattle.shapes.specs.Sizes.{most_facets}
use Rattle.store.proofs.write_sibling.Goals as goal

pub returns-then-caps-c : goal.returns-then-caps-c
returns-then-caps-c c = sym (cell_outside _ _ _ _ _ (omega arith))

pub returns-then-f-ge-MOST_FACETS : goal.returns-then-f-ge-MOST_FACETS
unfolding cell_open
returns-then-f-ge-MOST_FACETS c = sym (field_out _ _ _ Sib most_facets (λ k. refl) _ _ (omega arith))

pub overflow_add-x : goal.overflow_add-x
overflow_add-x c = omega (arith, number_few _ _ c.way_number.ensures)

pub returns : goal.returns
unfolding near_at address place_at cell_place cell_open
returns c = field_in _ _ _ Sib most_facets (λ k. refl) _ _ _ _ (rw c.way_number.ensures at c.put.ensures) (omega arith) (omega arith) (omega arith)
