-- `store::write_link` meets its contract.
use mathlib.Core.Path.{refl, sym, ◌∙◌}
use native.Mathlib.Omega.{arith}
use Rattle.store.proofs.Writes.{cell_outside, field_out, field_in, link_near, link_far}
use Rattle.store.specs.Layout.{near_at, far_at}
use Rattle.store.specs.Fields.{Link}
use Rattle.store.specs.Slots.{cell_open}
use Rattle.shapes.specs.Sizes.{most_marks}
use Rattle.store.proofs.write_link.Goals as goal

pub returns-then-caps-c : goal.returns-then-caps-c
returns-then-caps-c c = sym (cell_outside _ _ _ _ _ (omega arith))

pub returns-then-k-ge-MOST_MARKS : goal.returns-then-k-ge-MOST_MARKS
unfolding cell_open
returns-then-k-ge-MOST_MARKS c = sym (field_out _ _ _ Link most_marks (λ k. refl) _ _ (omega arith))

pub returns-then-k-lt-NEAR_MARKS : goal.returns-then-k-lt-NEAR_MARKS
unfolding near_at cell_open
returns-then-k-lt-NEAR_MARKS c =
    field_in _ _ _ Link most_marks (λ k. refl) _ _ _ _ c.put.ensures (omega arith ∙ sym (link_near _ _ _ _ (omega arith))) (omega arith)
    (omega arith)

pub returns : goal.returns
unfolding far_at cell_open
returns c =
    field_in _ _ _ Link most_marks (λ k. refl) _ _ _ _ c.put-2.ensures (omega arith ∙ sym (link_far _ _ _ _ (omega arith))) (omega arith)
    (omega arith)
