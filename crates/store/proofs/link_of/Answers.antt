-- `store::link_of` meets its contract.
use mathlib.Core.Path.{sym, ◌∙◌}
use native.Mathlib.Omega.{arith}
use Rattle.store.proofs.Writes.{read_at, link_near, link_far}
use Rattle.store.specs.Layout.{near_at, far_at}
use Rattle.store.proofs.link_of.Goals as goal

pub returns-then-k-lt-NEAR_MARKS : goal.returns-then-k-lt-NEAR_MARKS
unfolding near_at
returns-then-k-lt-NEAR_MARKS c = read_at _ _ _ _ _ c.word.ensures (omega arith ∙ sym (link_near _ _ _ _ c.if-k-lt-NEAR_MARKS.true))

pub returns : goal.returns
unfolding far_at
returns c = read_at _ _ _ _ _ c.word-2.ensures (omega arith ∙ sym (link_far _ _ _ _ c.if-k-lt-NEAR_MARKS.false))
