-- `whole::counts_ok` meets its contract.
use Rattle.lists.proofs.Every.{every_start, every_more, every_stop, every_end}
use Rattle.whole.proofs.Readings.{count_yes, count_no}
use native.Mathlib.Omega.{arith}
use Rattle.whole.proofs.counts_ok.Goals as goal

pub loop-t-init : goal.loop-t-init
loop-t-init c = every_start _

pub returns-then-count_of-count : goal.returns-then-count_of-count
returns-then-count_of-count c = every_stop _ _ c.loop-t.t (omega arith) (count_no _ _ c.loop-t.t _ _ c.count_of.ensures c.count.ensures c.if-count_of-count.true)

pub loop-t-preserved : goal.loop-t-preserved
loop-t-preserved c = every_more _ c.loop-t.t c.loop-t.invariant (count_yes _ _ c.loop-t.t _ _ c.count_of.ensures c.count.ensures c.if-count_of-count.false)

pub returns : goal.returns
returns c = every_end _ _ c.loop-t.t c.loop-t.invariant (omega arith) (omega arith)
