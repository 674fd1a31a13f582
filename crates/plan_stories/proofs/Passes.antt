-- The plan of a wanted list that can be built: the list is read whole, all edits are made, and they leave the map of the wanted cells.
use mathlib.Core.Path.{◌≡◌, ap, ◌∙◌}
use mathlib.Core.List.{List}
use Prim.Native.Nat.{ℕ}
use Rattle.map.specs.Cells.{Map, map_of}
use Rattle.map.specs.History.{build}
use Rattle.map.specs.Morning.{Morning, morning}
use Rattle.map.specs.Sound.{Sound}
use Rattle.wanted.specs.Wanted.{wanted_of}
use Rattle.planner.specs.Plan.{plan_of, plan_words}
use Rattle.plan_stories.proofs.Passing.{plan_accepted, plan_leaves}
use Rattle.plan_stories.proofs.Buildable.{build_tidy}
use Rattle.plan_stories.proofs.Mornings.{morning_made}

module _ (m : Map) (s : Sound m) (wanted : List ℕ) (built : (build m.caps wanted).refusal ≡ 0) where
  -- the list is read whole
  pub wanted_whole : (wanted_of wanted).refusal ≡ 0
  wanted_whole = (build_tidy m.caps wanted built).0

  -- all edits of the plan are made, and they leave the map of the wanted cells
  pub plan_morning : ((morning m (plan_words m wanted)).refusal ≡ 0) × ((morning m (plan_words m wanted)).map ≡ map_of m.caps (wanted_of wanted).cells)
  unfolding plan_words
  plan_morning =
      let t = (build_tidy m.caps wanted built).1 in
      let e = morning_made (plan_of m (wanted_of wanted).cells) m (plan_accepted m s (wanted_of wanted).cells t) in
      (ap (λ (x : Morning). x.refusal) e, ap (λ (x : Morning). x.map) e ∙ plan_leaves m s (wanted_of wanted).cells t)
