-- `group::linked` meets its contract.
use mathlib.Core.Path.{sym, ◌∙◌}
use native.Mathlib.Omega.{arith}
use borrow.Author.Count.{below_more}
use Rattle.group.proofs.Meeting.{linked_found, linked_none}
use Rattle.group.proofs.linked.Goals as goal

pub returns-then-joins : goal.returns-then-joins
returns-then-joins c =
    linked_found _ _ _ _ _ _ _ _ c.code_of.ensures c.facet_count-n.ensures c.loop-f.f
    (sym c.joins.ensures ∙ c.if-joins.true) (omega arith)

pub loop-f-preserved : goal.loop-f-preserved
loop-f-preserved c = below_more _ _ c.loop-f.invariant (sym c.joins.ensures ∙ c.if-joins.false)

pub returns : goal.returns
returns c =
    linked_none _ _ _ _ _ _ _ _ c.code_of.ensures c.facet_count-n.ensures c.loop-f.f c.loop-f.invariant (omega arith)
