-- What opens a call: the capacities of a mesh of which the row of checks passes, or the refusal: 14 where memory is no mesh, and on
-- well-formed memory the first check that fails.
use Rattle.std.specs.Prelude.{◌≡◌, false, List, [], ℕ, Result, Ok, Err}
use Rattle.numbers.specs.declared.Caps.{Caps}
use Rattle.store.specs.Open.{is_mesh, opened}
use Rattle.map.specs.Cells.{Map}
use Rattle.map.specs.Answers.{Check, answer}
use Rattle.map.specs.Says.{refused}
use Rattle.map.specs.declared.Refusal.{Refusal}
use Rattle.map.specs.declared.Refusal.TheVariants.{NotMesh}
use Rattle.picture.specs.Picture.{Wf}
use Rattle.checks.specs.Checked.{Checked}

pub record Opens (w : List ℕ) (checks : Map → List Check) (r : Result Caps Refusal) : Type 0 where
  pub opens : (caps : Caps) → r ≡ Ok caps → (Ok caps ≡ opened w) × Checked w caps checks (Ok tt)
  pub no_mesh : (why : Refusal) → r ≡ Err why → is_mesh w ≡ false → why ≡ NotMesh
  pub fails : (why : Refusal) → r ≡ Err why → (m : Map) → Wf w m → refused why ≡ answer (checks m) []
