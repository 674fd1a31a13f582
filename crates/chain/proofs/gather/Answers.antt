-- `chain::gather` meets its contract.
use mathlib.Core.Path.{◌≡◌, ◌∙◌, refl}
use native.Mathlib.Omega.{arith}
use Rattle.picture.specs.Picture.{chain_of}
use Rattle.chain.specs.Chain.{Gathered}
use Rattle.chain.proofs.Walks.{walking_start, walking_step, walking_end, walking_full}
use Rattle.chain.proofs.Places.{head_word_lem}
use Rattle.numbers.specs.Sizes.{most_around}
use borrow.Author.Rules.{rules}
use Rattle.chain.proofs.gather.Goals as goal

pub loop-n-init : goal.loop-n-init
loop-n-init c = (refl, λ s v p l e. walking_start _ s v _ _ e)

pub returns-then-link-eq0 : goal.returns-then-link-eq0
unfolding chain_of
returns-then-link-eq0 c = record { few = omega arith; size = c.loop-n.invariant.0; list = λ s p l h. let x = walking_end _ s _ _ _ _ _ (c.loop-n.invariant.1 s _ p l (c.first_of-link.ensures ∙ head_word_lem _ _ s p _ h)) c.if-link-eq0.true in (x.count, x.wrote) }

pub loop-n-preserved : goal.loop-n-preserved
loop-n-preserved c =
    (search rules, λ s v p l e. rw c.put.ensures (walking_step _ s v _ p l _ _ _ _ _ _ (c.loop-n.invariant.1 s v p l e) (omega arith) c.link_of-link.ensures))

pub returns : goal.returns
unfolding chain_of
returns c =
    let all : c.loop-n.n ≡ most_around = omega arith in
    let walked : Gathered c.args.w.now c.args.caps c.args.v.0 c.args.out.now c.loop-n.n c.loop-n.out =
    record { few = omega arith; size = c.loop-n.invariant.0; list = λ s p l h. let x = walking_full _ s _ _ _ _ _ (c.loop-n.invariant.1 s _ p l (c.first_of-link.ensures ∙ head_word_lem _ _ s p _ h)) (omega (arith, l.few c.args.v.0)) in (x.count, x.wrote) } in
    rw all at walked
