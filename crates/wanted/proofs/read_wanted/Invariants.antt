use mathlib.Core.Path.{◌≡◌}
use Prim.Native.Nat.{◌-◌}
use lib.ListN.{length, drop}
use Rattle.wanted.specs.Wanted.{wanted_of}
use Rattle.wanted.proofs.read_wanted.Given as goal

abbrev pub invariant-loop-at : goal.invariant-loop-at
invariant-loop-at l = (wanted_of l.records).refusal ≡ (wanted_of (drop l.at l.records)).refusal

abbrev pub decreases-loop-at : goal.decreases-loop-at
decreases-loop-at l = length l.records - l.at
