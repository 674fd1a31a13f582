-- A morning's edits belong to the story: they are a run of single edits, so all that holds after a story holds after them.
use mathlib.Core.Path.{subst}
use mathlib.Core.List.{List}
use Prim.Native.Nat.{ℕ}
use Rattle.map.specs.Cells.{Map}
use Rattle.map.specs.Morning.{morning}
use Rattle.map.specs.declared.Stopped.{Stopped}
use Rattle.std.specs.Prelude.{Result}
use Rattle.edits.specs.InTurn.{ListEdited}
use Rattle.edits.proofs.Runs.{morning_run, morning_history}
use Rattle.stories.specs.Story.{Story, then}
use Rattle.stories.proofs.Stories.{story_wf}

-- the story goes on with a list of edits, stopped or not
pub story_morning : {w list w' : List ℕ} {m : Map} {r : Result ℕ Stopped} → Story w m → ListEdited w list r w' → Story w' (morning m list).map
story_morning {w} {list} {w'} {m} s did =
    subst (λ (k : Map). Story w' k) (morning_history did m (story_wf s)) (then s (morning_run did m (story_wf s)))
