-- What reading a surface answers and leaves, on any memory, any positions and any text.
use Rattle.std.specs.Prelude.{◌≡◌, cond, List, [], ◌∷◌, ◌++◌, ℕ, ◌*◌, ◌<◌, eqb, ltb, length, drop, ℤ, Result, Ok, Err}
use Rattle.numbers.specs.Room.{room}
use Rattle.numbers.specs.Sizes.{capacities}
use Rattle.numbers.specs.declared.Caps.{Caps}
use Rattle.words.specs.Words.{Only}
use Rattle.map.specs.Answers.{Check, Answer, ◌when◌, answer, format_checks}
use Rattle.map.specs.History.{Outcome, build}
use Rattle.map.specs.Says.{number_of, given}
use Rattle.picture.specs.Picture.{Wf}
use Rattle.build.specs.Builds.{placed}
use Rattle.off.specs.Words.{Word}
use Rattle.off.specs.Reading.{Read, Got, Stop, Surface, reading}
use Rattle.surfaces.specs.declared.NotRead.{NotRead}
use Rattle.surfaces.specs.declared.NotRead.TheVariants as NotRead'

-- "17 .. with the byte place of the first word that breaks this form, or the length of a text that ends early"
unfoldable pub broken : ℕ → Answer
broken place = record { refusal = 17; values = place ∷ [] }

unfoldable pub surfaced_says : Result (Unit {0}) NotRead → Answer
surfaced_says (Ok _) = given []
surfaced_says (Err (NotRead'.Broken place)) = broken place
surfaced_says (Err (NotRead'.Refused why place)) = record { refusal = number_of why; values = place ∷ [] }

-- "the first two counts become the capacities"; "request 7's read mean[s] edition 1"
abbrev pub caps_of : Surface → Caps
caps_of s = capacities s.marks s.cells

-- 1, 2, and "16 after 2"
unfoldable pub room_checks : ℕ → ℕ → Caps → List Check
room_checks words numbers caps = format_checks words caps ++ ((16 when ltb numbers (3 * caps.marks)) ∷ [])

unfoldable pub room_refusal : ℕ → ℕ → Surface → ℕ
room_refusal words numbers s = (answer (room_checks words numbers (caps_of s)) []).refusal

-- "faces cells 0, 1, 2 in file order": a build of their records
unfoldable pub outcome : Surface → Outcome
outcome s = build (caps_of s) s.records

unfoldable pub surface_answer : ℕ → ℕ → Surface → Answer
surface_answer words numbers s =
    cond (eqb (room_refusal words numbers s) 0) (placed (outcome s).refusal (outcome s).place) (placed (room_refusal words numbers s) 0)

-- "17 before any build refusal"
unfoldable pub read_answer : ℕ → ℕ → Read Surface → Answer
read_answer words numbers (Stop place) = broken place
read_answer words numbers (Got s ws) = surface_answer words numbers s

-- three numbers a mark in the first places; "a refused read leaves the positions unchanged"
unfoldable pub positions_left : Surface → List ℤ → List ℤ
positions_left s positions = cond (eqb (outcome s).refusal 0) (s.positions ++ drop (length s.positions) positions) positions

-- a text of the form, with room for its surface
pub record SurfaceLeft (s : Surface) (w : List ℕ) (positions : List ℤ) (w' : List ℕ) (positions' : List ℤ) : Type 0 where
  pub inside : Only (λ i. i < room s.marks s.cells) w w'
  -- the mesh of its faces, or the formatted mesh with no live cell
  pub wf : Wf w' (outcome s).map
  pub metres : positions' ≡ positions_left s positions

pub record ReadsOff (w : List ℕ) (positions : List ℤ) (text : List ℕ) (r : Result (Unit {0}) NotRead) (w' : List ℕ) (positions' : List ℤ) : Type 0 where
  pub says : surfaced_says r ≡ read_answer (length w) (length positions) (reading text)
  -- 17, 1, 2 and 16 change nothing
  pub broke : (place : ℕ) → reading text ≡ Stop place → (w' ≡ w) × (positions' ≡ positions)
  pub kept : (s : Surface) (ws : List Word) → reading text ≡ Got s ws → (room_refusal (length w) (length positions) s ≡ 0 → ⊥)
      → (w' ≡ w) × (positions' ≡ positions)
  pub left : (s : Surface) (ws : List Word) → reading text ≡ Got s ws → room_refusal (length w) (length positions) s ≡ 0
      → SurfaceLeft s w positions w' positions'
