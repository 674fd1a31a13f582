-- `border::facet_at` meets its contract.
use mathlib.Core.Path.{sym, ◌∙◌}
use native.Mathlib.Omega.{arith}
use native.Mathlib.Nat.{not-suc-le-zero}
use borrow.Author.Count.{below_more}
use Rattle.border.proofs.Corners.{from_start, from_more, pick_here, facet_found, facet_none}
use Rattle.border.proofs.facet_at.Goals as goal

pub loop-f-init : goal.loop-f-init
loop-f-init c = (from_start _, λ k h. absurd (not-suc-le-zero h))

pub returns-then-picked : goal.returns-then-picked
returns-then-picked c =
    facet_found _ _ _ _ _ c.loop-f.f c.loop-f.invariant.1
    (sym (pick_here _ _ _ _ _ c.loop-f.f _ _ c.loop-f.invariant.0 c.picked.ensures) ∙ c.if-picked.true) (omega arith)

pub loop-f-preserved : goal.loop-f-preserved
loop-f-preserved c = (
  from_more _ _ _ c.loop-f.invariant.0,
  below_more _ _ c.loop-f.invariant.1
      (sym (pick_here _ _ _ _ _ c.loop-f.f _ _ c.loop-f.invariant.0 c.picked.ensures) ∙ c.if-picked.false),
)

pub returns : goal.returns
returns c = facet_none _ _ _ _ _ c.loop-f.f c.loop-f.invariant.1 (omega arith)
