-- `sibling::sharers` meets its contract.
use mathlib.Core.Path.{refl, ◌∙◌}
use native.Mathlib.Omega.{arith}
use Rattle.chain.proofs.Places.{head_word_lem}
use Rattle.chain.proofs.Readied.{ready_linked}
use Rattle.sibling.proofs.Written.{going_start, going_more, going_none, going_end, going_full, shared_list}
use Rattle.sibling.proofs.sharers.Goals as goal
use Rattle.sibling.proofs.sharers.Goals.{then-f-lt-NO_FACET, else-f-lt-NO_FACET}

pub loop-init : goal.loop-init
loop-init c = (omega arith, refl, λ s v p l e. going_start _ _ s v _ _ e)

pub returns-then-link-eq0 : goal.returns-then-link-eq0
returns-then-link-eq0 c =
    record {
      few = omega arith;
      size = c.loop.invariant.1;
      list = λ s p r q.
          shared_list _ _ _ _ _ _ _ _ c.word.ensures s p r q
          (going_end _ _ s _ _ _ _ _ _
          (c.loop.invariant.2 s _ p (ready_linked _ s r) (c.first_of-link.ensures ∙ head_word_lem _ _ s p _ (rw c.word.ensures q.mark)))
          (omega arith) c.if-link-eq0.true);
    }

pub loop-preserved : goal.loop-preserved
loop-preserved c =
    let loop = c.loop in
    elim c.if-f-lt-NO_FACET.branch [
      | then-f-lt-NO_FACET w ↦ (
        omega (arith, w.n-is),
        rw w.out-is (w.put.auto.m ∙ loop.invariant.1),
        λ s v p l e.
            rw (w.out-is, w.n-is)
            (going_more _ _ s v _ _ p l _ _ _ _ _ _ _ (loop.invariant.2 s v p l e) (omega arith) c.link_of-link.ensures c.matching-f.ensures
            (omega arith) _ _ w.if-f-lt-NO_FACET.true w.half_of-half.ensures w.put.ensures),
      )
      | else-f-lt-NO_FACET w ↦ (
        omega (arith, w.n-is),
        rw w.out-is loop.invariant.1,
        λ s v p l e.
            rw (w.out-is, w.n-is)
            (going_none _ _ s v _ _ p l _ _ _ _ _ _ _ (loop.invariant.2 s v p l e) (omega arith) c.link_of-link.ensures c.matching-f.ensures
            (omega arith) w.if-f-lt-NO_FACET.false),
      )
    ]

pub returns : goal.returns
returns c =
    record {
      few = omega arith;
      size = c.loop.invariant.1;
      list = λ s p r q.
          shared_list _ _ _ _ _ _ _ _ c.word.ensures s p r q
          (going_full _ _ s _ _ _ _ _ _
          (c.loop.invariant.2 s _ p (ready_linked _ s r) (c.first_of-link.ensures ∙ head_word_lem _ _ s p _ (rw c.word.ensures q.mark)))
          (omega arith) (omega (arith, (ready_linked _ s r).few c.word.result)));
    }
