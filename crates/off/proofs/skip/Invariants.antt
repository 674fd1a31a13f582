use mathlib.Core.Path.{◌≡◌}
use Prim.Native.Nat.{◌+◌}
use lib.ListN.{drop}
use Rattle.off.specs.Scan.{gap}
use Rattle.off.proofs.skip.Given as goal

abbrev pub invariant-loop-i : goal.invariant-loop-i
invariant-loop-i l = l.at + gap (drop l.at l.text) ≡ l.i + gap (drop l.i l.text)
