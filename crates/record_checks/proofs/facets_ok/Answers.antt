-- `record_checks::facets_ok` meets its contract.
use native.Mathlib.Omega.{arith}
use Rattle.record_checks.proofs.Steps.{facets_start, facets_stop, facets_more, facets_end}
use Rattle.record_checks.proofs.facets_ok.Goals as goal

pub loop-f-init : goal.loop-f-init
loop-f-init c = facets_start _ _ _ _

pub returns-then-sibling_word-ne0 : goal.returns-then-sibling_word-ne0
returns-then-sibling_word-ne0 c =
    rw (← c.facet_count-f.ensures) (facets_stop _ _ _ _ c.loop-f.f _ _ (omega arith) (omega arith) c.half_of.ensures c.sibling_word.ensures c.if-sibling_word-ne0.true)

pub loop-f-preserved : goal.loop-f-preserved
loop-f-preserved c =
    facets_more _ _ _ _ c.loop-f.f _ _ (omega arith) (omega arith) c.half_of.ensures c.sibling_word.ensures c.loop-f.invariant c.if-sibling_word-ne0.false

pub returns : goal.returns
returns c = rw (← c.facet_count-f.ensures) (facets_end _ _ _ _ c.loop-f.f c.loop-f.invariant (omega arith))
