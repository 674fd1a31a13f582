-- `chain::find` meets its contract.
use mathlib.Core.Path.{◌∙◌}
use native.Mathlib.Omega.{arith}
use Rattle.chain.proofs.Walks.{searching_start, searching_step, searching_end, searching_past, searching_full}
use Rattle.chain.proofs.Places.{head_word_lem}
use Rattle.chain.proofs.find.Goals as goal

pub loop-init : goal.loop-init
loop-init c = λ s v p l e. searching_start _ s v _ _ e

pub returns-then-after-eq0 : goal.returns-then-after-eq0
returns-then-after-eq0 c = record { spot = λ s p l h k. searching_end _ s _ _ _ _ _ (c.loop.invariant s _ p l (c.first_of-after.ensures ∙ head_word_lem _ _ s p _ h)) k c.if-after-eq0.true }

pub returns-then-c-at : goal.returns-then-c-at
returns-then-c-at c =
    record { spot = λ s p l h k. searching_past _ s _ l _ _ _ _ _ (c.loop.invariant s _ p l (c.first_of-after.ensures ∙ head_word_lem _ _ s p _ h)) (omega arith) c.if-c-at.true }

pub loop-preserved : goal.loop-preserved
loop-preserved c =
    λ s v p l e. searching_step _ s v l _ p _ _ _ _ _ _ (c.loop.invariant s v p l e) (omega arith) (omega arith) c.link_of-after.ensures

pub returns : goal.returns
returns c = record { spot = λ s p l h k. searching_full _ s _ _ _ _ _ (c.loop.invariant s _ p l (c.first_of-after.ensures ∙ head_word_lem _ _ s p _ h)) k (omega (arith, l.few c.args.v.0)) }
