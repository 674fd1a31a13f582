-- `border::all_out` meets its contract.
use mathlib.Core.Path.{◌∙◌}
use Prim.Native.Nat.{◌-◌}
use native.Mathlib.Omega.{arith}
use Rattle.chain.proofs.Places.{head_word_lem}
use Rattle.border.proofs.Words.{not_false}
use Rattle.border.proofs.Walked.{outing_start, outing_end, outing_before, outing_more, all_out_not}
use Rattle.border.proofs.all_out.Goals as goal

pub loop-init : goal.loop-init
loop-init c = λ s p a. outing_start _ s _ a _ _ (c.first_of-link.ensures ∙ head_word_lem _ _ s p _ a.mark)

pub returns-then-link-eq0 : goal.returns-then-link-eq0
returns-then-link-eq0 c = record { out = λ e s p a k there l. outing_end _ s _ a _ _ _ (c.loop.invariant s p a) c.if-link-eq0.true k there }

pub returns-then-b-c : goal.returns-then-b-c
returns-then-b-c c =
    record {
      out = λ e s p a k there l. outing_before _ s _ a _ _ _ (c.loop.link - 1) (c.loop.invariant s p a) (omega arith) k there (omega (arith, l, c.if-b-c.true));
    }

pub returns-then-not-cell_out : goal.returns-then-not-cell_out
returns-then-not-cell_out c = all_out_not _ _ _ _ _

pub loop-preserved : goal.loop-preserved
loop-preserved c =
    λ s p a. outing_more _ s _ a _ _ _ (c.loop.link - 1) (c.loop.invariant s p a) (omega (arith, c.if-link-eq0.false)) _ p _ c.star_bits.ensures _ c.cell_out.ensures (not_false _ c.if-not-cell_out.false-raw) _ c.link_of-link.ensures

pub returns : goal.returns
returns c = all_out_not _ _ _ _ _
