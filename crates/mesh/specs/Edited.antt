-- What an edit promises: memory that is no mesh is refused with 14; a refusal changes nothing, on any memory; nothing beyond the room
-- changes; on well-formed memory the answer is the definition's, and what is left is the well-formed memory of the edited map.
use Rattle.std.specs.Prelude.{◌≡◌, false, List, ℕ, ◌<◌, Result, ⊤, Err}
use Rattle.numbers.specs.Room.{room}
use Rattle.words.specs.Words.{Only}
use Rattle.numbers.specs.declared.Caps.{Caps}
use Rattle.store.specs.Open.{room_in, is_mesh}
use Rattle.map.specs.Cells.{Map}
use Rattle.map.specs.History.{Edit, Remove, edit_answer, changed, edited}
use Rattle.map.specs.Says.{verdict_says}
use Rattle.map.specs.declared.Refusal.{Refusal}
use Rattle.map.specs.declared.Refusal.TheVariants.{NotMesh}
use Rattle.picture.specs.Picture.{Wf}

pub record Edited (w : List ℕ) (e : Edit) (r : Result ⊤ Refusal) (w' : List ℕ) : Type 0 where
  pub refused : is_mesh w ≡ false → r ≡ Err NotMesh
  pub kept : (why : Refusal) → r ≡ Err why → w' ≡ w
  pub inside : Only (λ i. i < room_in w) w w'
  pub answers : (m : Map) → Wf w m → (verdict_says r ≡ edit_answer m e) × Wf w' (edited m e)

-- a live cell, given by its type and marks, taken out
pub record TakenOut (caps : Caps) (w w' : List ℕ) (c t : ℕ) (marks : List ℕ) : Type 0 where
  pub inside : Only (λ i. i < room caps.marks caps.cells) w w'
  pub wf : (m : Map) → m.caps ≡ caps → Wf w m → (edit_answer m (Remove c)).refusal ≡ 0 → t ≡ (m.at c).code → marks ≡ (m.at c).marks → Wf w' (changed m (Remove c))
