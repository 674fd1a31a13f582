-- What a build answers and leaves, on any memory.
use Rattle.std.specs.Prelude.{◌≡◌, cond, List, [], ◌∷◌, ℕ, ◌<◌, eqb, length, Result, ⊤}
use Rattle.numbers.specs.Room.{room}
use Rattle.numbers.specs.declared.Caps.{Caps}
use Rattle.words.specs.Words.{Only}
use Rattle.map.specs.Answers.{Answer, answer, format_checks}
use Rattle.map.specs.History.{build}
use Rattle.map.specs.Says.{built_says}
use Rattle.map.specs.declared.Unbuilt.{Unbuilt}
use Rattle.picture.specs.Picture.{Wf}

-- a refused build gives the place of its record; "Refusals 1 and 2 come with place 0", and 6 for an edition "like it"
unfoldable pub placed : ℕ → ℕ → Answer
placed refusal place = record { refusal = refusal; values = cond (eqb refusal 0) [] (place ∷ []) }

unfoldable pub format_refusal : ℕ → Caps → ℕ
format_refusal words caps = (answer (format_checks words caps) []).refusal

-- "Build does format, then inserts in order."
unfoldable pub build_answer : ℕ → Caps → List ℕ → Answer
build_answer words caps records =
    cond (eqb (format_refusal words caps) 0) (placed (build caps records).refusal (build caps records).place)
    (placed (format_refusal words caps) 0)

pub record Builds (w : List ℕ) (caps : Caps) (records : List ℕ) (r : Result ⊤ Unbuilt) (w' : List ℕ) : Type 0 where
  pub says : built_says r ≡ build_answer (length w) caps records
  -- "Refusals 1 and 2 .. change nothing", nor does 6 for an edition
  pub kept : (format_refusal (length w) caps ≡ 0 → ⊥) → w' ≡ w
  pub inside : Only (λ i. i < room caps.marks caps.cells) w w'
  -- the built mesh, or the formatted mesh of that edition with no live cell
  pub wf : format_refusal (length w) caps ≡ 0 → Wf w' (build caps records).map
