-- `border::corner_with` meets its contract.
use mathlib.Core.Path.{sym, ◌∙◌}
use native.Mathlib.Omega.{arith}
use native.Mathlib.Nat.{not-suc-le-zero}
use borrow.Author.Count.{below_more}
use borrow.Author.Tests.{eq-eqb, ne_eqb}
use Rattle.border.proofs.Walked.{corner_found, corner_none}
use Rattle.border.proofs.corner_with.Goals as goal

pub loop-k-init : goal.loop-k-init
loop-k-init c = λ k h. absurd (not-suc-le-zero h)

pub returns-then-corner_of-v : goal.returns-then-corner_of-v
returns-then-corner_of-v c =
    corner_found _ _ _ _ c.loop-k.k c.loop-k.invariant (eq-eqb _ _ (sym c.corner_of.ensures ∙ c.if-corner_of-v.true)) (omega arith)

pub loop-k-preserved : goal.loop-k-preserved
loop-k-preserved c =
    below_more _ _ c.loop-k.invariant (ne_eqb _ _ (λ e. c.if-corner_of-v.false (c.corner_of.ensures ∙ e)))

pub returns : goal.returns
returns c = corner_none _ _ _ _ c.loop-k.k c.loop-k.invariant (omega arith)
