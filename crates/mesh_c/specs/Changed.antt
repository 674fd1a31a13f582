-- What a call that writes the mesh promises, told by numbers: the answer; a refusal changes nothing, save a build refused at a record;
-- nothing beyond the room changes; what is left is the well-formed memory of the map that the definitions give.
use Rattle.std.specs.Prelude.{◌≡◌, false, List, ℕ, ◌<◌, length}
use Rattle.numbers.specs.Room.{room}
use Rattle.numbers.specs.declared.Caps.{Caps}
use Rattle.words.specs.Words.{Only}
use Rattle.store.specs.Open.{room_in, is_mesh}
use Rattle.map.specs.Cells.{Map}
use Rattle.map.specs.History.{Edit, edit_answer, edited, empty, build}
use Rattle.picture.specs.Picture.{Wf}
use Rattle.build.specs.Builds.{format_refusal, build_answer}
use Rattle.c_answers.specs.Told.{Told}

-- a format
pub record Emptied (w : List ℕ) (caps : Caps) (r : ℕ) (w' : List ℕ) : Type 0 where
  pub answers : r ≡ format_refusal (length w) caps
  pub kept : (r ≡ 0 → ⊥) → w' ≡ w
  pub inside : Only (λ i. i < room caps.marks caps.cells) w w'
  pub wf : r ≡ 0 → Wf w' (empty caps)

-- a build: the place of the refused record is written on a refusal alone
pub record Raised (w : List ℕ) (caps : Caps) (records : List ℕ) (x r : ℕ) (w' : List ℕ) (x' : ℕ) : Type 0 where
  pub answers : Told (build_answer (length w) caps records) x r x'
  pub place : r ≡ 0 → x' ≡ x
  pub kept : (format_refusal (length w) caps ≡ 0 → ⊥) → w' ≡ w
  pub inside : Only (λ i. i < room caps.marks caps.cells) w w'
  pub wf : format_refusal (length w) caps ≡ 0 → Wf w' (build caps records).map

-- an insert or a removal
pub record Changed (w : List ℕ) (e : Edit) (r : ℕ) (w' : List ℕ) : Type 0 where
  pub refused : is_mesh w ≡ false → r ≡ 14
  pub kept : (r ≡ 0 → ⊥) → w' ≡ w
  pub inside : Only (λ i. i < room_in w) w w'
  pub answers : (m : Map) → Wf w m → (r ≡ (edit_answer m e).refusal) × Wf w' (edited m e)
