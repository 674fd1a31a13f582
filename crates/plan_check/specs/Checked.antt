-- What the check of a plan promises: memory that is no mesh is refused with 14; a refusal changes nothing, on any memory; nothing beyond the
-- room changes; on well-formed memory the answer is the definition's, and yes or 24 leaves the map after the accepted edits.
use Rattle.std.specs.Prelude.{◌≡◌, false, List, [], ◌∷◌, ℕ, ◌<◌, length, Result, ⊤, Ok, Err}
use Rattle.words.specs.Words.{Only}
use Rattle.store.specs.Open.{room_in, is_mesh}
use Rattle.map.specs.Cells.{Map}
use Rattle.map.specs.Answers.{Answer, answer}
use Rattle.map.specs.Morning.{morning}
use Rattle.map.specs.Says.{given, refused}
use Rattle.map.specs.declared.Refusal.{Refusal}
use Rattle.map.specs.declared.Refusal.TheVariants.{NotMesh}
use Rattle.picture.specs.Picture.{Wf}
use Rattle.wanted.specs.Plans.{plan_checks, plan_answer}
use Rattle.plan_check.specs.declared.Flaw.TheVariants.{Wrong, Refused}
use Rattle.plan_check.specs.declared.Flaw.{Flaw}

-- "24 with the place"
unfoldable pub planned_says : Result ⊤ Flaw → Answer
planned_says (Ok tt) = given []
planned_says (Err (Wrong place)) = record { refusal = 24; values = place ∷ [] }
planned_says (Err (Refused why)) = refused why

pub record PlanChecked (mesh edits wanted second : List ℕ) (r : Result ⊤ Flaw) (second' : List ℕ) : Type 0 where
  pub refused : is_mesh mesh ≡ false → r ≡ Err (Refused NotMesh)
  pub kept : (why : Refusal) → r ≡ Err (Refused why) → second' ≡ second
  pub inside : Only (λ i. i < room_in mesh) second second'
  -- "It works in a second memory, where yes or 24 leaves the map after the edits accepted."
  pub answers : (m : Map) → Wf mesh m
      → (planned_says r ≡ plan_answer m (length second) edits wanted)
      × ((answer (plan_checks m (length second) wanted) []).refusal ≡ 0 → Wf second' (morning m edits).map)
