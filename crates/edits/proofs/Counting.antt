-- A count raised, and one that stays at its largest number; the tally by the answer.
use mathlib.Core.Path.{◌≡◌, refl}
use Prim.Native.Nat.{ℕ, ◌+◌, ◌<◌, ◌≤◌}
use native.Mathlib.Omega.{arith}
use borrow.Author.Tests.{ne_eqb}
use Rattle.lists.specs.Lists.{first}
use Rattle.map.specs.Says.{number_of, given, edits_says, StoppedAt}
use Rattle.map.specs.declared.Refusal.{Refusal}
use Rattle.map.proofs.Refusals.{number_some}
use Rattle.edits.specs.Counts.{most_count, counted, tally_after}
use Rattle.map.specs.declared.Stopped.{Stopped}
use Rattle.std.specs.Prelude.{Result, Ok}
use Rattle.edits.specs.declared.Tally.{Tally}

pub counted_below : (had more : ℕ) → had + more ≤ most_count → had + more ≡ counted had more
unfolding counted
counted_below had more h = omega arith

pub counted_most : (had more : ℕ) → most_count < had + more → most_count ≡ counted had more
unfolding counted
counted_most had more h = omega arith

module _ (t : Tally) (r : Result ℕ Stopped) (n : ℕ) where
  pub tally_made : r ≡ Ok n → (a : ℕ) → a ≡ counted t.accepted n → record { accepted = a; refused = t.refused } ≡ tally_after t (edits_says r)
  unfolding tally_after edits_says given first
  tally_made e a f = rw (e, f)

  pub tally_stopped : (why : Refusal) → r ≡ StoppedAt n why → (a b : ℕ) → a ≡ counted t.accepted n → b ≡ counted t.refused 1
      → record { accepted = a; refused = b } ≡ tally_after t (edits_says r)
  unfolding tally_after edits_says first
  tally_stopped why e a b f g = rw (e, f, g, ne_eqb (number_of why) 0 (λ z. omega (arith, number_some why)))
