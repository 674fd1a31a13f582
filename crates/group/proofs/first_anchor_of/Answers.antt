-- `group::first_anchor_of` meets its contract.
use Rattle.group.proofs.Deciding.{decide_none, decide_border}
use Rattle.group.proofs.first_anchor_of.Goals as goal

pub returns-then-border-eq0 : goal.returns-then-border-eq0
returns-then-border-eq0 c = decide_none _ _ _ _ _ _ c.ends_of-e.ensures c.if-border-eq0.true

pub returns-then-all_out : goal.returns-then-all_out
returns-then-all_out c =
    decide_border _ _ _ _ _ _ c.ends_of-e.ensures _ c.if-border-eq0.false c.all_out.ensures c.if-all_out.true
