-- What a call with positions told by numbers promises: memory that is no mesh is refused with 14; a refusal leaves what was lent as it was, on
-- any memory; on well-formed memory the number, the word and the floats are the definition's answer.
use Rattle.std.specs.Prelude.{◌≡◌, false, List, ℕ, ◌*◌, ◌≤◌, length, drop, ℤ, Float}
use Rattle.store.specs.Open.{is_mesh}
use Rattle.map.specs.Cells.{Map}
use Rattle.picture.specs.Picture.{Wf}
use Rattle.positions.specs.Measures.{coordinates}
use Rattle.positions.specs.Replies.{Reply}
use Rattle.positions.specs.Pointed.{points_answer, pointed}
use Rattle.c_answers.specs.Floats.{ToldMeasure, ToldPoint}
use Rattle.mesh_c.specs.Answered.{Answered}

-- a measure: the number of its kind and its float
pub record Sized (w : List ℕ) (reply : Map → Reply) (k : ℕ) (x : Float) (r k' : ℕ) (x' : Float) : Type 0 where
  pub refused : is_mesh w ≡ false → r ≡ 14
  pub kept : (r ≡ 0 → ⊥) → (k' ≡ k) × (x' ≡ x)
  pub answers : (m : Map) → Wf w m → ToldMeasure (reply m) k x r k' x'

-- a centre: its three floats
pub record Centre (w : List ℕ) (reply : Map → Reply) (x y z : Float) (r : ℕ) (x' y' z' : Float) : Type 0 where
  pub refused : is_mesh w ≡ false → r ≡ 14
  pub kept : (r ≡ 0 → ⊥) → (x' ≡ x) × (y' ≡ y) × (z' ≡ z)
  pub answers : (m : Map) → Wf w m → ToldPoint (reply m) x y z r x' y' z'

-- points in the first places of an output, and their count
pub record Corners (w : List ℕ) (positions : List ℤ) (c : ℕ) (o : List Float) (n r : ℕ) (o' : List Float) (n' : ℕ) : Type 0 where
  pub count : Answered w (λ m. points_answer m positions c (length o)) n r n'
  pub kept : (r ≡ 0 → ⊥) → o' ≡ o
  -- only the places of as many points as are counted change, whatever memory holds
  pub first : r ≡ 0 → (3 * n' ≤ length o) × (length o' ≡ length o) × (drop (3 * n') o' ≡ drop (3 * n') o)
  pub wrote : (m : Map) → Wf w m → o' ≡ pointed (points_answer m positions c (length o)) (coordinates positions (m.at c).marks) o
