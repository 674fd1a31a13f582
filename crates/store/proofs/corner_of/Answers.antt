-- `store::corner_of` meets its contract.
use mathlib.Core.Path.{sym, ◌∙◌}
use native.Mathlib.Omega.{arith}
use Rattle.store.proofs.Writes.{read_at}
use Rattle.store.proofs.Marks.{corner_near, corner_far}
use Rattle.store.specs.Fields.{cell_place}
use Rattle.store.specs.Slots.{address, place_at}
use Rattle.store.specs.Layout.{near_at, far_at}
use Rattle.store.proofs.corner_of.Goals as goal

pub returns-then-k-lt-NEAR_MARKS : goal.returns-then-k-lt-NEAR_MARKS
unfolding near_at address place_at cell_place
returns-then-k-lt-NEAR_MARKS c = read_at _ _ _ _ _ c.word.ensures (omega arith) ∙ sym (corner_near _ _ _ _ c.if-k-lt-NEAR_MARKS.true)

pub returns : goal.returns
unfolding far_at address place_at cell_place
returns c = read_at _ _ _ _ _ c.word-2.ensures (omega arith) ∙ sym (corner_far _ _ _ _ c.if-k-lt-NEAR_MARKS.false)
