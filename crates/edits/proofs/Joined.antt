-- A list of edits in two parts.
use mathlib.Core.Path.{◌≡◌}
use mathlib.Core.List.{List, ◌++◌}
use Prim.Native.Nat.{ℕ}
use native.Mathlib.Omega.{arith}
use Rattle.map.specs.Cells.{Map}
use Rattle.map.specs.Morning.{morning}
use Rattle.edits.proofs.Mornings.{after, append_from}

-- two lists joined: the second is made on what the first leaves, where the first does not stop
pub morning_append : (m : Map) (a b : List ℕ) → (morning m a).refusal ≡ 0 → morning m (a ++ b) ≡ after (morning m a).made (morning (morning m a).map b)
unfolding morning
morning_append m a b ok = append_from a 0 m b (omega arith) ok
