use Prim.Native.Nat.{◌-◌}
use Rattle.off_lines.proofs.Lengths.{Counting}
use Rattle.off_lines.proofs.number_length.Given as goal

abbrev pub invariant-loop-bytes : goal.invariant-loop-bytes
invariant-loop-bytes l = Counting l.n l.rest (6 - l.bytes) l.bytes
