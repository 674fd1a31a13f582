use Prim.Native.Nat.{◌<◌}
use Rattle.record_checks.proofs.Steps.{Going}
use Rattle.record_checks.proofs.chain_ok.Given as goal

abbrev pub invariant-loop-n : goal.invariant-loop-n
invariant-loop-n l = (l.link < 4294967296) × Going l.w l.caps l.v.0 l.n l.link l.low
