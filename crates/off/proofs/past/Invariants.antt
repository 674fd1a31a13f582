use mathlib.Core.Path.{◌≡◌}
use Prim.Native.Nat.{◌+◌}
use lib.ListN.{drop}
use Rattle.off.specs.Scan.{run}
use Rattle.off.proofs.past.Given as goal

abbrev pub invariant-loop-i : goal.invariant-loop-i
invariant-loop-i l = l.at + run (drop l.at l.text) ≡ l.i + run (drop l.i l.text)
