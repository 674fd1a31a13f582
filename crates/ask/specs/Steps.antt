-- The outline's number and values of each case of a walker's step.
use Rattle.std.specs.Prelude.{[], ◌∷◌, Result, Ok, Err}
use Rattle.map.specs.Answers.{Answer}
use Rattle.map.specs.Says.{given, refused}
use Rattle.map.specs.Ways.{way_number}
use Rattle.ask.specs.declared.Walker.{Walker}
use Rattle.map.specs.declared.Way.{Way}
use Rattle.map.specs.declared.Refusal.{Refusal}

unfoldable pub step_says : Result (Walker × Way) Refusal → Answer
step_says (Ok (w, way)) = given (w.0.0 ∷ way_number way ∷ [])
step_says (Err r) = refused r
