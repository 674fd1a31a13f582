-- The answer of a check told by its number, and the place in its word.
use Prim.Native.Nat.{ℕ}
use Rattle.plan_check.specs.Checked.{planned_says}
use Rattle.plan_check.specs.declared.Flaw.{Flaw}
use Rattle.std.specs.Prelude.{Result, ⊤}
use Rattle.c_answers.specs.Told.{Told}
use Rattle.mesh_c.specs.Plans.{ByPlace}

pub by_place : {Promise : Result ⊤ Flaw → Type 0} (p : Result ⊤ Flaw) (x r x' : ℕ) → Told (planned_says p) x r x' → Promise p → ByPlace Promise x r x'
by_place p x r x' t q = record { planned = p; told = t; promised = q }
