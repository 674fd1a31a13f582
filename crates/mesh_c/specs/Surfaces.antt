-- What reading and writing a surface promise, told by numbers: the number, the place or the length, and what is left of mesh, positions and output.
use Rattle.std.specs.Prelude.{◌≡◌, false, List, ℕ, ◌≤◌, length, drop, ℤ}
use Rattle.store.specs.Open.{is_mesh}
use Rattle.map.specs.Cells.{Map}
use Rattle.picture.specs.Picture.{Wf}
use Rattle.off.specs.Words.{Word}
use Rattle.off.specs.Reading.{Got, Stop, Surface, reading}
use Rattle.surfaces.specs.ReadsOff.{read_answer, room_refusal, SurfaceLeft}
use Rattle.surfaces_out.specs.WritesOff.{off_text, write_answer, text_left}
use Rattle.c_answers.specs.Told.{Told}

-- a surface read: the place of the text, or of the face, is written on a refusal alone
pub record SurfaceRead (w : List ℕ) (positions : List ℤ) (text : List ℕ) (x r : ℕ) (w' : List ℕ) (positions' : List ℤ) (x' : ℕ) : Type 0 where
  pub answers : Told (read_answer (length w) (length positions) (reading text)) x r x'
  pub place : r ≡ 0 → x' ≡ x
  -- 17, 1, 2 and 16 change nothing
  pub broke : (place : ℕ) → reading text ≡ Stop place → (w' ≡ w) × (positions' ≡ positions)
  pub kept : (s : Surface) (ws : List Word) → reading text ≡ Got s ws → (room_refusal (length w) (length positions) s ≡ 0 → ⊥)
      → (w' ≡ w) × (positions' ≡ positions)
  pub left : (s : Surface) (ws : List Word) → reading text ≡ Got s ws → room_refusal (length w) (length positions) s ≡ 0
      → SurfaceLeft s w positions w' positions'

-- a surface written: the length of the text
pub record SurfaceWritten (w : List ℕ) (positions : List ℤ) (o : List ℕ) (n r : ℕ) (o' : List ℕ) (n' : ℕ) : Type 0 where
  pub refused : is_mesh w ≡ false → r ≡ 14
  pub kept : (r ≡ 0 → ⊥) → (o' ≡ o) × (n' ≡ n)
  -- only as many places as are counted change, whatever memory holds
  pub first : r ≡ 0 → (n' ≤ length o) × (length o' ≡ length o) × (drop n' o' ≡ drop n' o)
  pub answers : (m : Map) → Wf w m
      → Told (write_answer m positions (length o)) n r n' × (o' ≡ text_left (write_answer m positions (length o)) (off_text m positions) o)
