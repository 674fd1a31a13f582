-- `border::walks_out` meets its contract.
use Rattle.border.proofs.Walked.{kept_more, kept_out, kept_before, out_not}
use Rattle.border.proofs.walks_out.Goals as goal

pub loop-step-init : goal.loop-step-init
loop-step-init c s p b d g e = e

pub returns-then-next-h : goal.returns-then-next-h
returns-then-next-h c =
    kept_out _ _ _ _ c.loop-step.h.0 _ c.loop-step.invariant c.sibling_of-next.ensures c.if-next-h.true

pub returns-then-next-start : goal.returns-then-next-start
returns-then-next-start c =
    kept_before _ _ _ _ c.loop-step.h.0 _ c.loop-step.invariant c.sibling_of-next.ensures c.if-next-start.true

pub returns-then-h-start : goal.returns-then-h-start
returns-then-h-start c = out_not _ _ _ _

pub loop-step-preserved : goal.loop-step-preserved
loop-step-preserved c =
    kept_more _ _ _ _ c.loop-step.h.0 _ c.loop-step.invariant c.sibling_of-next.ensures _ c.turn-h.ensures

pub returns : goal.returns
returns c = out_not _ _ _ _
