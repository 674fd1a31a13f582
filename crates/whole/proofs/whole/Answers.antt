-- `whole::whole` meets its contract.
use Rattle.whole.proofs.Wholes.{no_mesh, no_laid, no_lone, no_counts, no_siblings, passed}
use borrow.Author.Tests.{not-true, not-false}
use mathlib.Core.Path.{sym, ◌∙◌}
use Rattle.store.proofs.Shut.{only_refusal}
use Rattle.whole.proofs.whole.Goals as goal

pub returns-in_default : goal.returns-in_default
returns-in_default c = no_mesh _ (only_refusal _ _ (sym c.in_default.is ∙ c.«open».ensures))

pub returns-then-not-laid : goal.returns-then-not-laid
returns-then-not-laid c =
    no_laid _ _ (sym c.in-Ok.is ∙ c.«open».ensures) (sym c.laid.ensures ∙ not-true _ c.if-not-laid.true-raw)

pub returns-then-not-all_lone : goal.returns-then-not-all_lone
returns-then-not-all_lone c =
    no_lone _ _ (sym c.in-Ok.is ∙ c.«open».ensures) _ c.all_lone.ensures (not-true _ c.if-not-all_lone.true-raw)

pub returns-then-not-counts_ok : goal.returns-then-not-counts_ok
returns-then-not-counts_ok c =
    no_counts _ _ (sym c.in-Ok.is ∙ c.«open».ensures) (sym c.counts_ok.ensures ∙ not-true _ c.if-not-counts_ok.true-raw)

pub returns-else-all_siblings : goal.returns-else-all_siblings
returns-else-all_siblings c =
    rw c.if-all_siblings.false
    (no_siblings _ _ (sym c.in-Ok.is ∙ c.«open».ensures) _ c.facet_table-rows.ensures _ c.all_siblings.ensures c.if-all_siblings.false)

pub returns-then-all_siblings : goal.returns-then-all_siblings
returns-then-all_siblings c =
    passed _ _ (sym c.in-Ok.is ∙ c.«open».ensures) _ c.facet_table-rows.ensures (sym c.laid.ensures ∙ not-false _ c.if-not-laid.false-raw) _ _ _ c.all_lone.ensures (not-false _ c.if-not-all_lone.false-raw) (sym c.counts_ok.ensures ∙ not-false _ c.if-not-counts_ok.false-raw) c.all_siblings.ensures c.if-all_siblings.true c.all_anchors.ensures
