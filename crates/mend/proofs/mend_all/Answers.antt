-- `mend::mend_all` meets its contract.
use native.Mathlib.Omega.{arith}
use Rattle.mend.proofs.Mending.{mends_start, mends_more, mends_done}
use Rattle.mend.proofs.mend_all.Goals as goal

pub loop-f-init : goal.loop-f-init
loop-f-init c = mends_start _ _ _ _ _

pub loop-f-preserved : goal.loop-f-preserved
loop-f-preserved c =
    mends_more _ _ _ _ _ _ _ c.loop-f.f c.loop-f.invariant (omega (arith, c.facet_count-n.ensures)) c.mend_facet.ensures

pub returns : goal.returns
returns c = mends_done _ _ _ _ _ _ c.loop-f.f c.loop-f.invariant (omega (arith, c.facet_count-n.ensures))
