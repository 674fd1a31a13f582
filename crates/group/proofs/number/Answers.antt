-- `group::number` meets its contract.
use native.Mathlib.Omega.{arith}
use Rattle.group.proofs.Merging.{number_start, number_more, number_end}
use Rattle.group.proofs.number.Goals as goal

pub loop-j-init : goal.loop-j-init
loop-j-init c = number_start _

pub loop-j-preserved : goal.loop-j-preserved
loop-j-preserved c = number_more _ _ _ _ c.loop-j.invariant c.put.ensures

pub returns : goal.returns
returns c = number_end c.loop-j.j _ _ _ c.loop-j.invariant (omega arith) (omega arith)
