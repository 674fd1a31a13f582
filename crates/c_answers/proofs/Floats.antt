-- An answer with floats told: refused, or given.
use mathlib.Core.Path.{◌≡◌}
use mathlib.Core.List.{[], ◌∷◌}
use Prim.Native.Nat.{ℕ}
use lib.Ieee.{Float}
use Rattle.lists.specs.Lists.{first}
use Rattle.map.specs.Says.{number_of, given, refused}
use Rattle.map.specs.declared.Refusal.{Refusal}
use Rattle.positions.specs.Replies.{Reply}
use Rattle.c_answers.specs.Floats.{ToldMeasure, ToldPoint}

module _ (a : Reply) where
  pub measure_refused : (k : ℕ) (x : Float) (why : Refusal) (r : ℕ) → a ≡ record { answer = refused why; floats = [] } → r ≡ number_of why → ToldMeasure a k x r k x
  unfolding refused first
  measure_refused k x why r e q = record { told = record { number = rw (e, q); value = rw e }; size = rw e }

  pub measure_given : (k : ℕ) (x : Float) (j : ℕ) (y : Float) → a ≡ record { answer = given (j ∷ []); floats = y ∷ [] } → ToldMeasure a k x 0 j y
  unfolding given first
  measure_given k x j y e = record { told = record { number = rw e; value = rw e }; size = rw e }

  pub point_refused : (x y z : Float) (why : Refusal) (r : ℕ) → a ≡ record { answer = refused why; floats = [] } → r ≡ number_of why → ToldPoint a x y z r x y z
  unfolding refused
  point_refused x y z why r e q = record { number = rw (e, q); first = rw e; second = rw e; third = rw e }

  pub point_given : (x y z p q r : Float) → a ≡ record { answer = given []; floats = p ∷ q ∷ r ∷ [] } → ToldPoint a x y z 0 p q r
  unfolding given
  point_given x y z p q r e = record { number = rw e; first = rw e; second = rw e; third = rw e }
