-- `group::merge_pair` meets its contract.
use mathlib.Core.Path.{sym, ◌∙◌}
use Rattle.lists.proofs.Bools.{clash}
use Rattle.group.proofs.Merging.{merge_skip, merge_join, link_is}
use Rattle.group.proofs.merge_pair.Goals as goal

pub returns-then-one-other : goal.returns-then-one-other
returns-then-one-other c order below =
    merge_skip _ _ _ _ _ (λ e. sym c.word-one.ensures ∙ (c.if-one-other.true ∙ c.word-other.ensures))

pub returns-then-linked : goal.returns-then-linked
returns-then-linked c order below =
    let joined = link_is _ _ _ _ _ _ _ _ _ _ c.word.ensures c.word-2.ensures c.linked.ensures in
    merge_join _ _ _ _ _ _ _ _ c.word-one.ensures c.word-other.ensures order below c.relabel.ensures
    (sym joined ∙ c.if-linked.true)

pub returns-else-linked : goal.returns-else-linked
returns-else-linked c order below =
    let joined = link_is _ _ _ _ _ _ _ _ _ _ c.word.ensures c.word-2.ensures c.linked.ensures in
    merge_skip _ _ _ _ _ (λ e. absurd (clash (joined ∙ e) c.if-linked.false))
