-- What the points of a cell promise: memory that is no mesh is refused with 14; a refusal changes no place of the output, and points that
-- fit change only its first places, on any memory; on well-formed memory the answer and the places are the definition's.
use Rattle.std.specs.Prelude.{◌≡◌, false, cond, List, [], ◌∷◌, ◌++◌, ℕ, ◌*◌, ◌≤◌, eqb, ltb, length, drop, ℤ, Float, Result, Ok, Err}
use Rattle.shapes.specs.Sizes.{most_marks}
use Rattle.store.specs.Open.{is_mesh}
use Rattle.map.specs.Cells.{Map}
use Rattle.map.specs.Answers.{Answer, ◌when◌, answer}
use Rattle.map.specs.Says.{value_says}
use Rattle.map.specs.declared.Refusal.{Refusal}
use Rattle.map.specs.declared.Refusal.TheVariants.{NotMesh}
use Rattle.picture.specs.Picture.{Wf}
use Rattle.ask.specs.Asked.{Asked}
use Rattle.ask.specs.Refusals.{no_value}
use Rattle.positions.specs.declared.CornersAt.{CornersAt}
use Rattle.positions.specs.Measures.{coordinates, points_of, origins}
use Rattle.positions.specs.Rows.{corner_checks}

-- a list written to the first places of an output, all else as it was
pub record Wrote {A : Type 0} (l o o' : List A) : Type 0 where
  pub size : length o' ≡ length o
  pub wrote : length l ≤ length o → o' ≡ l ++ drop (length l) o

-- 12 after 16: room counts floats, three a corner; the answer counts corners
unfoldable pub points_answer : Map → List ℤ → ℕ → ℕ → Answer
points_answer m positions c places =
    answer (corner_checks m c (length positions) ++ ((12 when ltb places (3 * length (m.at c).marks)) ∷ [])) (length (m.at c).marks ∷ [])

-- the output afterwards: a refusal changes nothing
unfoldable pub pointed : Answer → List Float → List Float → List Float
pointed a l out = cond (eqb a.refusal 0) (l ++ drop (length l) out) out

pub record Pointed (w : List ℕ) (positions : List ℤ) (c : ℕ) (o : List Float) (r : Result ℕ Refusal) (o' : List Float) : Type 0 where
  pub refused : is_mesh w ≡ false → r ≡ Err NotMesh
  pub kept : (why : Refusal) → r ≡ Err why → o' ≡ o
  pub first : (n : ℕ) → r ≡ Ok n → (3 * n ≤ length o) × (length o' ≡ length o) × (drop (3 * n) o' ≡ drop (3 * n) o)
  pub answers : (m : Map) → Wf w m
      → (value_says r ≡ points_answer m positions c (length o))
      × (o' ≡ pointed (points_answer m positions c (length o)) (coordinates positions (m.at c).marks) o)

-- the corners by value: refused like the points, save 12
unfoldable pub corners_answer : Map → List ℤ → ℕ → Answer
corners_answer m positions c = answer (corner_checks m c (length positions)) (length (m.at c).marks ∷ [])

pub record Cornered (w : List ℕ) (positions : List ℤ) (c : ℕ) (r : CornersAt) : Type 0 where
  pub count : Asked value_says no_value w (λ m. corners_answer m positions c) r.count
  pub few : (n : ℕ) → r.count ≡ Ok n → n ≤ most_marks
  pub none : (why : Refusal) → r.count ≡ Err why → r.at ≡ origins
  pub points : (m : Map) → Wf w m → (n : ℕ) → r.count ≡ Ok n → r.at ≡ points_of positions (m.at c).marks ++ drop (length (m.at c).marks) origins
