-- An answer told: refused, given a value, given none.
use mathlib.Core.Path.{◌≡◌, refl, ap, ◌∙◌}
use mathlib.Core.List.{[], ◌∷◌}
use Prim.Native.Nat.{ℕ, ◌%◌}
use native.Mathlib.Omega.{arith}
use borrow.Author.Tests.{ne_eqb}
use Rattle.lists.specs.Lists.{first}
use Rattle.map.specs.Answers.{Answer}
use Rattle.map.specs.Says.{number_of, given, refused, verdict_says, built_says, edits_says, RefusedAt, StoppedAt}
use Rattle.map.specs.declared.Refusal.{Refusal}
use Rattle.map.specs.declared.Stopped.{Stopped}
use Rattle.map.specs.declared.Unbuilt.{Unbuilt}
use Rattle.std.specs.Prelude.{Result, ⊤, Ok, Err}
use Rattle.map.proofs.Refusals.{number_some}
use Rattle.plan_check.specs.Checked.{planned_says}
use Rattle.plan_check.specs.declared.Flaw.TheVariants.{Wrong}
use Rattle.plan_check.specs.declared.Flaw.{Flaw}
use Rattle.surfaces.specs.ReadsOff.{broken, surfaced_says}
use Rattle.surfaces.specs.declared.NotRead.{NotRead}
use Rattle.surfaces.specs.declared.NotRead.TheVariants as NotRead'
use Rattle.surfaces_out.specs.WritesOff.{written_says}
use Rattle.surfaces_out.specs.declared.NotWritten.{NotWritten}
use Rattle.surfaces_out.specs.declared.NotWritten.TheVariants as NotWritten'
use Rattle.c_answers.specs.Told.{Told, ToldTwo, ToldFound}

-- what stands inside an answer
pub ok_with : {T E : Type 0} {r : Result T E} {x y : T} → r ≡ Ok x → x ≡ y → r ≡ Ok y
ok_with e f = e ∙ ap Ok f

pub err_with : {T E : Type 0} {r : Result T E} {x y : E} → r ≡ Err x → x ≡ y → r ≡ Err y
err_with e f = e ∙ ap Err f

module _ (a : Answer) (x : ℕ) where
  pub told_refused : (why : Refusal) (r : ℕ) → a ≡ refused why → r ≡ number_of why → Told a x r x
  unfolding refused first
  told_refused why r e q = record { number = rw (e, q); value = rw e }

  pub told_none : a ≡ given [] → Told a x 0 x
  unfolding given first
  told_none e = record { number = rw e; value = rw e }

  pub told_given : (n : ℕ) → a ≡ given (n ∷ []) → Told a x 0 n
  unfolding given first
  told_given n e = record { number = rw e; value = rw e }

  -- with a second value
  module _ (y : ℕ) where
    pub two_refused : (why : Refusal) (r : ℕ) → a ≡ refused why → r ≡ number_of why → ToldTwo a x y r x y
    unfolding refused
    two_refused why r e q = record { told = told_refused why r e q; second = rw e }

    pub two_given : (n k k' : ℕ) → a ≡ given (n ∷ k ∷ []) → k' ≡ k → ToldTwo a x y 0 n k'
    unfolding given first
    two_given n k k' e q = record { told = record { number = rw e; value = rw e }; second = rw e q }

  -- with how many there are
  module _ (y : ℕ) where
    pub found_refused : (why : Refusal) (r : ℕ) → a ≡ refused why → r ≡ number_of why → ToldFound a y x r y x
    found_refused why r e q = record {
      told = told_refused why r e q;
      found = rw (ne_eqb r 0 (λ z. omega (arith, number_some why)));
    }

    pub found_none : a ≡ given [] → ToldFound a y x 0 0 x
    unfolding given
    found_none e = record { told = told_none e; found = rw e }

    pub found_given : (n : ℕ) → a ≡ given (n ∷ []) → ToldFound a y x 0 1 n
    unfolding given
    found_given n e = record { told = told_given n e; found = rw e }

-- a verdict has no value
module _ (v : Result ⊤ Refusal) where
  pub verdict_accepted : v ≡ (Ok tt) → 0 ≡ (verdict_says v).refusal
  unfolding verdict_says given
  verdict_accepted e = rw e

  pub verdict_refused : (why : Refusal) (r : ℕ) → v ≡ Err why → r ≡ number_of why → r ≡ (verdict_says v).refusal
  unfolding verdict_says refused
  verdict_refused why r e q = rw (e, q)

-- a refused build has the place
pub built_refused : (b : Result ⊤ Unbuilt) (x : ℕ) (why : Refusal) (place r : ℕ) → b ≡ RefusedAt why place → r ≡ number_of why → Told (built_says b) x r place
unfolding built_says first
built_refused b x why place r e q = record { number = rw (e, q); value = rw e }

-- a list of edits has the number made
pub edits_stopped : (e : Result ℕ Stopped) (x : ℕ) (why : Refusal) (made r : ℕ) → e ≡ StoppedAt made why → r ≡ number_of why → Told (edits_says e) x r made
unfolding edits_says first
edits_stopped e x why made r q n = record { number = rw (q, n); value = rw q }

-- a refused read has its place
module _ (s : Result (Unit {0}) NotRead) (x : ℕ) where
  pub surfaced_broken : (place : ℕ) → s ≡ Err (NotRead'.Broken place) → Told (surfaced_says s) x 17 place
  unfolding surfaced_says broken first
  surfaced_broken place e = record { number = rw e; value = rw e }

  pub surfaced_refused : (why : Refusal) (place r : ℕ) → s ≡ Err (NotRead'.Refused why place) → r ≡ number_of why → Told (surfaced_says s) x r place
  unfolding surfaced_says first
  surfaced_refused why place r e q = record { number = rw (e, q); value = rw e }

-- a cell that is no face has no value
pub written_other : (t : Result ℕ NotWritten) (x : ℕ) → t ≡ Err NotWritten'.NotSurface → Told (written_says t) x 18 x
unfolding written_says first
written_other t x e = record { number = rw e; value = rw e }

-- a plan that is wrong has its place
pub planned_wrong : (p : Result ⊤ Flaw) (x place : ℕ) → p ≡ Err (Wrong place) → Told (planned_says p) x 24 place
unfolding planned_says first
planned_wrong p x place e = record { number = rw e; value = rw e }
