use Rattle.whole.proofs.Loops.{SeesTo}
use Rattle.whole.specs.SecondHalf.{SettledBy, anc_right}
use Prim.Native.Nat.{◌<◌}
use Rattle.whole.proofs.anchors_ok.Given as goal

abbrev pub invariant-loop-d : goal.invariant-loop-d
invariant-loop-d l = SeesTo l.w l.caps (λ s. SettledBy l.caps l.rows s × (l.v.0 < l.caps.marks)) (λ s. anc_right l.caps s l.v.0) l.d
