-- What the insertion of one record promises, on any memory.
use Rattle.std.specs.Prelude.{◌≡◌, List, ℕ, ◌+◌, ◌-◌, ◌<◌, ◌≤◌, get_or, Result, ⊤, Err}
use Rattle.words.specs.Words.{part_of}
use Rattle.shapes.specs.Shapes.{shape}
use Rattle.map.specs.Cells.{licensed_body}
use Rattle.map.specs.History.{Edit, Insert}
use Rattle.map.specs.declared.Refusal.TheVariants.{CountWrong}
use Rattle.map.specs.declared.Refusal.{Refusal}
use Rattle.mesh.specs.Edited.{Edited}

-- "A build record is a cell number, a type code, then that type's marks"; "build records .. give it after the type"
unfoldable pub width : List ℕ → ℕ → ℕ
width records at = 3 + (shape (get_or records (at + 1) 0)).marks

-- the record between two places
unfoldable pub between : List ℕ → ℕ → ℕ → Edit
between records at end =
    Insert (get_or records at 0) (licensed_body (get_or records (at + 1) 0) (get_or records (at + 2) 0) (part_of records (at + 3) (end - 3 - at)))

pub record Recorded (w records : List ℕ) (at end : ℕ) (r : Result ⊤ Refusal) (w' : List ℕ) : Type 0 where
  -- no room for a number, a type and a licence
  pub short : end < at + 3 → (r ≡ Err CountWrong) × (w' ≡ w)
  pub whole : at + 3 ≤ end → Edited w (between records at end) r w'
