-- `store::marks_place` meets its contract.
use mathlib.Core.Path.{sym, ◌∙◌}
use native.Mathlib.Omega.{arith}
use Rattle.store.proofs.Marks.{marks_near, marks_far}
use Rattle.store.specs.Layout.{near_at, far_at}
use Rattle.store.proofs.marks_place.Goals as goal

pub returns-then-n : goal.returns-then-n
unfolding near_at
returns-then-n c = omega arith ∙ sym (marks_near _ _ _ (omega arith))

pub returns : goal.returns
unfolding far_at
returns c = omega arith ∙ sym (marks_far _ _ _ (omega arith))
