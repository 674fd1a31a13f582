-- What the planner promises: memory that is no mesh is refused with 14; a refusal changes no place of the output, and a plan that fits changes only
-- its first places, on any memory; on well-formed memory the answer and the places are the definition's.
use Rattle.std.specs.Prelude.{◌≡◌, false, not, List, [], ◌∷◌, ℕ, ◌<◌, ◌≤◌, eqb, length, Result, Ok, Err}
use Rattle.words.specs.Words.{Only}
use Rattle.store.specs.Open.{is_mesh}
use Rattle.map.specs.Cells.{Map}
use Rattle.map.specs.Answers.{Check, Answer, ◌when◌, list_answer}
use Rattle.map.specs.Says.{given, refused}
use Rattle.map.specs.declared.Refusal.{Refusal}
use Rattle.map.specs.declared.Refusal.TheVariants.{NotMesh}
use Rattle.picture.specs.Picture.{Wf}
use Rattle.listing.specs.Listing.{listed}
use Rattle.wanted.specs.Wanted.{wanted_of}
use Rattle.planner.specs.Plan.{plan_words}

-- "the planner 7 or 6 likewise, then 12 if its plan does not fit, with nothing written"
unfoldable pub planner_checks : List ℕ → List Check
planner_checks wanted = ((wanted_of wanted).refusal when not (eqb (wanted_of wanted).refusal 0)) ∷ []

unfoldable pub planner_answer : Map → List ℕ → ℕ → Answer
planner_answer m wanted places = list_answer (planner_checks wanted) (plan_words m wanted) places

unfoldable pub proposal_says : Result ℕ Refusal → Answer
proposal_says (Ok n) = given (n ∷ [])
proposal_says (Err why) = refused why

pub record Proposed (w wanted o : List ℕ) (r : Result ℕ Refusal) (o' : List ℕ) : Type 0 where
  pub refused : is_mesh w ≡ false → r ≡ Err NotMesh
  pub kept : (why : Refusal) → r ≡ Err why → o' ≡ o
  pub first : (n : ℕ) → r ≡ Ok n → (n ≤ length o) × Only (λ i. i < n) o o'
  pub answers : (m : Map) → Wf w m
      → (proposal_says r ≡ planner_answer m wanted (length o)) × (o' ≡ listed (planner_answer m wanted (length o)) (plan_words m wanted) o)
