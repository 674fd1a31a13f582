-- `facet::set_has` meets its contract.
use mathlib.Core.Path.{◌∙◌}
use native.Mathlib.Nat.{not-suc-le-zero}
use native.Mathlib.Omega.{arith}
use borrow.Author.Count.{below_more}
use Rattle.facet.proofs.Copy.{set_here}
use Rattle.facet.proofs.Held.{held_stop, held_end}
use Rattle.facet.proofs.set_has.Goals as goal

pub loop-k-init : goal.loop-k-init
loop-k-init c = λ j h. absurd (not-suc-le-zero h)

pub returns-then-word-v : goal.returns-then-word-v
returns-then-word-v c =
    held_stop _ _ _ _ _ _ c.four_at_most-n.ensures c.column.ensures c.loop-k.k _ _
    (set_here _ _ _ _ c.loop-k.k _ _ c.column-in-loop-k.ensures c.word.ensures) (omega arith) c.if-word-v.true

pub loop-k-preserved : goal.loop-k-preserved
loop-k-preserved c =
    below_more _ c.loop-k.k c.loop-k.invariant
    (λ e. c.if-word-v.false (set_here _ _ _ _ c.loop-k.k _ _ c.column-in-loop-k.ensures c.word.ensures ∙ e))

pub returns : goal.returns
returns c =
    held_end _ _ _ _ _ _ c.four_at_most-n.ensures c.column.ensures c.loop-k.k _ c.loop-k.invariant (omega arith)
