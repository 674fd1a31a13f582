-- `mend::anchor_all` meets its contract.
use mathlib.Core.Path.{refl}
use native.Mathlib.Omega.{arith}
use Rattle.mend.proofs.Anchoring.{anchors_start, anchors_more, anchors_done}
use Rattle.mend.proofs.anchor_all.Goals as goal

pub loop-v-init : goal.loop-v-init
loop-v-init c = anchors_start _ _ _ _ _

pub loop-v-preserved : goal.loop-v-preserved
loop-v-preserved c =
    anchors_more _ _ _ _ _ _ _ c.loop-v.v-index _ refl c.loop-v.invariant (omega arith) c.anchor_mark.ensures

pub returns : goal.returns
returns c = anchors_done _ _ _ _ _ _ c.loop-v.v-index c.loop-v.invariant (omega arith)
