-- What the check of a plan answers: the plan is a list of edits, today's map and the wanted list are given.
use Rattle.std.specs.Prelude.{Bool, cond, not, ◌&&◌, List, [], ◌∷◌, ℕ, eqb, ltb}
use Rattle.numbers.specs.Room.{room}
use Rattle.map.specs.Cells.{Map}
use Rattle.map.specs.Answers.{Answer, Check, ◌when◌, answer}
use Rattle.map.specs.Morning.{morning}
use Rattle.map.specs.Says.{given}
use Rattle.wanted.specs.Wanted.{wanted_of, as_wanted}

-- "yes exactly when every edit in order would be accepted and the live cells afterwards .. are the wanted ones, each once"
unfoldable pub plan_right : Map → List ℕ → List ℕ → Bool
plan_right m edits wanted = eqb (morning m edits).refusal 0 && as_wanted (morning m edits).map (wanted_of wanted).cells

-- "before it 2, then 7 for a wanted list cut short or 6 for an unknown type in it": so many words has the second memory
unfoldable pub plan_checks : Map → ℕ → List ℕ → List Check
plan_checks m words wanted =
    (2 when ltb words (room m.caps.marks m.caps.cells))
    ∷ ((wanted_of wanted).refusal when not (eqb (wanted_of wanted).refusal 0))
    ∷ []

-- "24 with the place (from 0) of the first wrong edit, or with the length of the list if only the end differs": the number of edits made
unfoldable pub plan_verdict : Map → List ℕ → List ℕ → Answer
plan_verdict m edits wanted = cond (plan_right m edits wanted) (given []) (record { refusal = 24; values = (morning m edits).made ∷ [] })

unfoldable pub plan_answer : Map → ℕ → List ℕ → List ℕ → Answer
plan_answer m words edits wanted =
    cond (eqb (answer (plan_checks m words wanted) []).refusal 0) (plan_verdict m edits wanted) (answer (plan_checks m words wanted) [])
