-- `group::seek` meets its contract.
use mathlib.Core.Path.{sym, ◌∙◌}
use native.Mathlib.Omega.{arith}
use borrow.Author.Count.{below_more}
use Rattle.group.proofs.Seeking.{seek_found, seek_none}
use Rattle.group.proofs.seek.Goals as goal

pub returns-then-chosen : goal.returns-then-chosen
returns-then-chosen c = seek_found _ _ _ _ _ _ _ _ _ c.loop-x.x c.loop-x.invariant (sym c.chosen.ensures ∙ c.if-chosen.true) (omega arith)

pub loop-x-preserved : goal.loop-x-preserved
loop-x-preserved c = below_more _ _ c.loop-x.invariant (sym c.chosen.ensures ∙ c.if-chosen.false)

pub returns : goal.returns
returns c = seek_none _ _ _ _ _ _ _ _ _ c.loop-x.x c.loop-x.invariant (omega arith)
