-- A verdict told by its number, a count in its word, a truth by its bit.
use mathlib.Core.Path.{◌≡◌}
use mathlib.Core.Bool.{Bool, true, false, cond}
use Prim.Native.Nat.{ℕ}
use Rattle.map.specs.Says.{verdict_says, value_says}
use Rattle.map.specs.declared.Refusal.{Refusal}
use Rattle.std.specs.Prelude.{Result, ⊤}
use Rattle.c_answers.specs.Told.{Told}
use Rattle.mesh_c.specs.Journals.{ByNumber, ByCount, ByBit}

pub by_number : {Promise : Result ⊤ Refusal → Type 0} (v : Result ⊤ Refusal) (r : ℕ) → r ≡ (verdict_says v).refusal → Promise v → ByNumber Promise r
by_number v r e p = record { verdict = v; number = e; promised = p }

pub by_count : {Promise : Result ℕ Refusal → Type 0} (v : Result ℕ Refusal) (x r x' : ℕ) → Told (value_says v) x r x' → Promise v → ByCount Promise x r x'
by_count v x r x' t p = record { value = v; told = t; promised = p }

pub by_yes : {Promise : Bool → Type 0} (b : Bool) → b ≡ true → Promise b → ByBit Promise 1
by_yes b e p = record { truth = b; bit = rw e; promised = p }

pub by_no : {Promise : Bool → Type 0} (b : Bool) → b ≡ false → Promise b → ByBit Promise 0
by_no b e p = record { truth = b; bit = rw e; promised = p }
