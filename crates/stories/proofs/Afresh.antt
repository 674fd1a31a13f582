-- What a story leaves is what a mesh of the same capacities and edition is, built afresh from its live cells in any order.
use mathlib.Core.Path.{◌≡◌, ap, ◌∙◌, subst}
use mathlib.Core.Bool.{true}
use mathlib.Core.List.{List, []}
use Prim.Native.Nat.{ℕ, ◌≤◌}
use borrow.Author.Tests.{le-ltb}
use lib.ListN.{length}
use Rattle.numbers.specs.Room.{room}
use Rattle.numbers.specs.declared.Caps.{Caps}
use Rattle.map.specs.Cells.{Live, Map, live_cells}
use Rattle.map.specs.Afresh.{Shuffled, build_words}
use Rattle.map.specs.Answers.{Answer, ◌when◌, answer, format_checks}
use Rattle.map.specs.Says.{given, built_says}
use Rattle.map.specs.declared.Unbuilt.{Unbuilt}
use Rattle.std.specs.Prelude.{Result, ⊤, Ok}
use Rattle.map.proofs.Says.{built_one}
use Rattle.laws.proofs.Builds.{afresh_built}
use Rattle.picture.specs.Picture.{Wf}
use Rattle.build.specs.Builds.{placed, format_refusal, build_answer, Builds}
use Rattle.stories.specs.Story.{Story}
use Rattle.stories.proofs.Stories.{story_wf}
use Rattle.numbers.specs.Sizes.{most_capacity}
use Rattle.numbers.specs.Editions.{is_edition}

-- a format of capacities within the limits, of an edition that there is, in memory as long as the room is accepted
format_good : (words : ℕ) (caps : Caps) → caps.marks ≤ most_capacity → caps.cells ≤ most_capacity → is_edition caps.edition ≡ true
    → room caps.marks caps.cells ≤ words → format_refusal words caps ≡ 0
unfolding format_refusal format_checks ◌when◌ answer
format_good words caps p q i fits =
    let passed : answer (format_checks words caps) [] ≡ record { refusal = 0; values = [] } =
    rw (i, le-ltb most_capacity caps.marks p, le-ltb most_capacity caps.cells q, le-ltb words (room caps.marks caps.cells) fits) in
    ap (λ (a : Answer). a.refusal) passed

module _ {w : List ℕ} {m : Map} (s : Story w m) (other : List Live) (order : Shuffled (live_cells m) other) {b b' : List ℕ} {r : Result ⊤ Unbuilt}
    (builds : Builds b m.caps (build_words other) r b') (fits : room m.caps.marks m.caps.cells ≤ length b) where
  -- the capacities, the edition and the memory are good
  good : format_refusal (length b) m.caps ≡ 0
  good = format_good (length b) m.caps (story_wf s).picture.marks (story_wf s).picture.cells (story_wf s).picture.edition fits

  -- the build is accepted
  pub afresh_accepted : r ≡ (Ok tt)
  unfolding build_answer placed built_says given
  afresh_accepted = built_one r (Ok tt) (builds.says ∙ rw (good, (afresh_built m (story_wf s).sound (story_wf s).two other order).0))

  -- it leaves well-formed memory of the same map
  pub afresh_wf : Wf b' m
  afresh_wf = subst (λ (k : Map). Wf b' k) (afresh_built m (story_wf s).sound (story_wf s).two other order).1 (builds.wf good)
