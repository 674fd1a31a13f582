-- `positions::total` meets its contract.
use native.Mathlib.Omega.{arith}
use Rattle.metres.proofs.Sums.{held_none, held_more, held_all}
use Rattle.positions.proofs.Measures.{read_there}
use Rattle.positions.proofs.total.Goals as goal

pub loop-i-init : goal.loop-i-init
loop-i-init c = λ few. held_none _

pub loop-i-preserved : goal.loop-i-preserved
loop-i-preserved c =
    λ few. held_more _ _ _ (omega (arith, few)) _ (read_there _ _ _ _ _ c.corner_of-v.ensures c.metre-x.ensures.value) c.metre-x.ensures.fits (c.loop-i.invariant few)

pub returns : goal.returns
returns c few = held_all _ _ _ _ (omega arith) (omega arith) few (c.loop-i.invariant few)
