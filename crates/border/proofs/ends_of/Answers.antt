-- `border::ends_of` meets its contract.
use mathlib.Core.Path.{◌∙◌}
use Prim.Native.Nat.{◌-◌}
use native.Mathlib.Omega.{arith}
use Rattle.chain.proofs.Places.{head_word_lem}
use Rattle.border.proofs.Ending.{ending_start, ending_end, ending_full, ending_more, ending_border}
use Rattle.border.proofs.ends_of.Goals as goal

pub loop-init : goal.loop-init
loop-init c = λ s v p b e. ending_start _ s v b _ _ e

pub returns-then-link-eq0 : goal.returns-then-link-eq0
returns-then-link-eq0 c =
    record { ends = λ s p b. ending_end _ s _ b _ _ _ _ (c.loop.invariant s _ p b (c.first_of-link.ensures ∙ head_word_lem _ _ s p _ b.mark)) c.if-link-eq0.true }

pub returns-then-border-gt0 : goal.returns-then-border-gt0
returns-then-border-gt0 c =
    record { ends = λ s p b. ending_border _ s _ b _ _ p _ _ (c.loop.link - 1) _ (c.loop.invariant s _ p b (c.first_of-link.ensures ∙ head_word_lem _ _ s p _ b.mark)) (omega arith) _ c.star_bits-bits.ensures _ c.earlier-any.ensures _ c.half_at-border.ensures c.if-border-gt0.true }

pub loop-preserved : goal.loop-preserved
loop-preserved c =
    λ s v p b e. ending_more _ s v b _ _ p _ _ (c.loop.link - 1) _ (c.loop.invariant s v p b e) (omega arith) _ c.star_bits-bits.ensures _ c.earlier-any.ensures _ c.half_at-border.ensures _ c.link_of-link.ensures (omega arith)

pub returns : goal.returns
returns c =
    record { ends = λ s p b. ending_full _ s _ b _ _ _ _ (c.loop.invariant s _ p b (c.first_of-link.ensures ∙ head_word_lem _ _ s p _ b.mark)) (omega arith) }
