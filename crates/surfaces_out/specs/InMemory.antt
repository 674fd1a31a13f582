-- The faces as the records of any memory give them.
use Rattle.std.specs.Prelude.{◌≡◌, Bool, true, false, cond, not, ◌&&◌, List, [], map, ℕ, ◌<◌, eqb, length, Option, Some, None}
use Rattle.lists.specs.Lists.{select, list_of}
use Rattle.numbers.specs.declared.Caps.{Caps}
use Rattle.shapes.specs.Shapes.{shape}
use Rattle.store.specs.Slots.{code_in, corner_in}
use Rattle.off.specs.Writing.{face_line, face_lines}
use Rattle.surfaces_out.specs.WritesOff.{is_face}
use Rattle.surfaces_out.specs.declared.Survey.{Survey}

-- a type, and no face
unfoldable pub other_type : ℕ → Bool
other_type t = not (eqb t 0) && not (is_face t)

-- the marks of a cell, as many as its type has
unfoldable pub corners_in : List ℕ → Caps → ℕ → List ℕ
corners_in w caps c = list_of (shape (code_in w caps c)).marks (corner_in w caps c)

unfoldable pub line_in : List ℕ → Caps → ℕ → List ℕ
line_in w caps c = cond (eqb (code_in w caps c) 0) [] (face_line (corners_in w caps c))

-- the live cells below n
unfoldable pub faces_in : List ℕ → Caps → ℕ → List (List ℕ)
faces_in w caps n = map (corners_in w caps) (select (λ c. not (eqb (code_in w caps c) 0)) n)

pub record Surveyed (w : List ℕ) (caps : Caps) (r : Option Survey) : Type 0 where
  pub is : (s : Survey) → r ≡ Some s
      → ((c : ℕ) → c < caps.cells → other_type (code_in w caps c) ≡ false) × (s.faces ≡ length (faces_in w caps caps.cells))
      × (s.bytes ≡ length (face_lines (faces_in w caps caps.cells)))
  pub other : r ≡ None → (c : ℕ) × (c < caps.cells) × (other_type (code_in w caps c) ≡ true)
