-- `facet::first_facet` meets its contract.
use mathlib.Core.Path.{sym, ◌∙◌}
use native.Mathlib.Nat.{not-suc-le-zero}
use native.Mathlib.Omega.{arith}
use borrow.Author.Count.{below_more}
use borrow.Author.Tests.{not-true}
use Rattle.facet.proofs.Match.{match_other, match_found, match_none}
use Rattle.facet.proofs.first_facet.Goals as goal

pub returns-then-not-spans : goal.returns-then-not-spans
returns-then-not-spans c = match_other _ _ _ _ (sym c.spans.ensures ∙ not-true _ c.if-not-spans.true-raw)

pub loop-f-init : goal.loop-f-init
loop-f-init c = λ k h. absurd (not-suc-le-zero h)

pub returns-then-same_facet : goal.returns-then-same_facet
returns-then-same_facet c =
    match_found _ _ _ _ _ c.facet_count-n.ensures c.loop-f.f c.loop-f.invariant
    (sym c.same_facet.ensures ∙ c.if-same_facet.true) (omega arith)

pub loop-f-preserved : goal.loop-f-preserved
loop-f-preserved c =
    below_more _ _ c.loop-f.invariant (sym c.same_facet.ensures ∙ c.if-same_facet.false)

pub returns : goal.returns
returns c =
    match_none _ _ _ _ _ c.facet_count-n.ensures c.loop-f.f c.loop-f.invariant (omega arith)
