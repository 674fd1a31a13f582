-- What a format promises, on any memory: the answer; a refusal changes nothing; nothing beyond the room changes; an accepted format leaves
-- the well-formed memory of the mesh with no live cell.
use Rattle.std.specs.Prelude.{◌≡◌, List, [], ℕ, ◌<◌, length, Result, ⊤, Ok, Err}
use Rattle.numbers.specs.Room.{room}
use Rattle.numbers.specs.declared.Caps.{Caps}
use Rattle.words.specs.Words.{Only}
use Rattle.map.specs.Answers.{answer, format_checks}
use Rattle.map.specs.History.{empty}
use Rattle.map.specs.Says.{verdict_says}
use Rattle.map.specs.declared.Refusal.{Refusal}
use Rattle.picture.specs.Picture.{Wf}

pub record Formatted (w : List ℕ) (caps : Caps) (r : Result ⊤ Refusal) (w' : List ℕ) : Type 0 where
  pub says : verdict_says r ≡ answer (format_checks (length w) caps) []
  pub kept : (why : Refusal) → r ≡ Err why → w' ≡ w
  pub inside : Only (λ i. i < room caps.marks caps.cells) w w'
  pub wf : r ≡ (Ok tt) → Wf w' (empty caps)
