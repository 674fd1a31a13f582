-- What writing a surface promises: memory that is no mesh is refused with 14; a refusal changes no place of the output, and a text that fits
-- changes only its first places, on any memory; on well-formed memory the answer and the places are the definition's.
use Rattle.std.specs.Prelude.{◌≡◌, Bool, false, cond, not, ◌||◌, List, [], ◌∷◌, ◌++◌, map, ℕ, ◌*◌, ◌≤◌, eqb, ltb, length, drop, ℤ, Result, Ok, Err}
use Rattle.lists.specs.Lists.{any}
use Rattle.store.specs.Open.{is_mesh}
use Rattle.map.specs.Cells.{Map, Live, live_cells}
use Rattle.map.specs.Answers.{Check, Answer, ◌when◌, list_answer}
use Rattle.map.specs.Says.{given, refused}
use Rattle.map.specs.declared.Refusal.TheVariants.{NotMesh}
use Rattle.picture.specs.Picture.{Wf}
use Rattle.off.specs.Writing.{text_of}
use Rattle.surfaces_out.specs.declared.NotWritten.{NotWritten}
use Rattle.surfaces_out.specs.declared.NotWritten.TheVariants as NotWritten'

-- a triangle or a quad
unfoldable pub is_face : ℕ → Bool
is_face t = eqb t 2 || eqb t 3

-- "18 for a live cell not triangle or quad"
unfoldable pub other_cell : Map → Bool
other_cell m = any (λ (x : Live). not (is_face x.body.code)) (live_cells m)

-- the marks of each live face, ascending by number
unfoldable pub faces_of : Map → List (List ℕ)
faces_of m = map (λ (x : Live). x.body.marks) (live_cells m)

-- "Ours has a line each for the word, the counts (edges 0), a vertex and a live face": a vertex for each mark of the capacity
unfoldable pub off_text : Map → List ℤ → List ℕ
off_text m positions = text_of m.caps.marks positions (faces_of m)

-- "18 .. after 16 and before 12"
unfoldable pub write_checks : Map → ℕ → List Check
write_checks m numbers = (16 when ltb numbers (3 * m.caps.marks)) ∷ (18 when other_cell m) ∷ []

unfoldable pub write_answer : Map → List ℤ → ℕ → Answer
write_answer m positions places = list_answer (write_checks m (length positions)) (off_text m positions) places

unfoldable pub written_says : Result ℕ NotWritten → Answer
written_says (Ok n) = given (n ∷ [])
written_says (Err NotWritten'.NotSurface) = record { refusal = 18; values = [] }
written_says (Err (NotWritten'.Refused why)) = refused why

-- the output afterwards: "with the output unchanged" where it is refused
unfoldable pub text_left : Answer → List ℕ → List ℕ → List ℕ
text_left a text out = cond (eqb a.refusal 0) (text ++ drop (length text) out) out

pub record WritesOff (w : List ℕ) (positions : List ℤ) (o : List ℕ) (r : Result ℕ NotWritten) (o' : List ℕ) : Type 0 where
  pub refused : is_mesh w ≡ false → r ≡ Err (NotWritten'.Refused NotMesh)
  pub kept : ((n : ℕ) → r ≡ Ok n → ⊥) → o' ≡ o
  pub first : (n : ℕ) → r ≡ Ok n → (n ≤ length o) × (length o' ≡ length o) × (drop n o' ≡ drop n o)
  pub answers : (m : Map) → Wf w m
      → (written_says r ≡ write_answer m positions (length o)) × (o' ≡ text_left (write_answer m positions (length o)) (off_text m positions) o)
