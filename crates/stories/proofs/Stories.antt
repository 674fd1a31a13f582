-- After any story memory is well-formed for the map that the story leaves, every query answers by definition over its cells, and the whole
-- check says yes.
use mathlib.Core.Path.{◌≡◌, refl}
use mathlib.Core.Bool.{Bool, true}
use mathlib.Core.List.{List}
use Prim.Native.Nat.{ℕ, min}
use lib.ListN.{length}
use Rattle.map.specs.Cells.{Map}
use Rattle.map.specs.Answers.{Check, list_answer}
use Rattle.map.specs.Says.{value_says}
use Rattle.map.specs.declared.Refusal.{Refusal}
use Rattle.std.specs.Prelude.{Result}
use Rattle.picture.specs.Picture.{Wf}
use Rattle.ask.specs.Asked.{Asked, Handed}
use Rattle.listing.specs.Listing.{Listing, Paired, listed}
use Rattle.mesh.proofs.Evening.{run_wf}
use Rattle.whole.specs.Whole.{Whole}
use Rattle.whole.proofs.One.{whole_yes}
use Rattle.stories.specs.Story.{Story, formatted, built, then, refused_format, refused_build}

-- memory is well-formed for the map of the cells that the edits leave
pub story_wf : {w : List ℕ} {m : Map} → Story w m → Wf w m
story_wf (formatted f) = f.wf refl
story_wf (built b ok) = b.wf ok
story_wf (then s run) = run_wf run _ (story_wf s)
story_wf (refused_format s f) = rw (f.kept _ refl) (story_wf s)
story_wf (refused_build s b short) = rw (b.kept short) (story_wf s)

module _ {w : List ℕ} {m : Map} (s : Story w m) where
  -- a query answers as the definition does over those cells
  pub story_asked : {A B : Type 0} {says : A → B} {noMesh : A} {answer : Map → B} {r : A}
      → Asked says noMesh w answer r → says r ≡ answer m
  story_asked q = q.answers m (story_wf s)

  -- the part of memory that is handed back is the definition's
  pub story_handed : {part : Map → List ℕ} {r : List ℕ} → Handed w part r → r ≡ part m
  story_handed q = q.answers m (story_wf s)

  -- a listing query gives the definition's list, and leaves the output with it
  pub story_listed : {checks : Map → List Check} {list : Map → List ℕ} {o o' : List ℕ} {r : Result ℕ Refusal} → Listing w checks list o r o'
      → (value_says r ≡ list_answer (checks m) (list m) (length o))
      × (o' ≡ listed (list_answer (checks m) (list m) (length o)) (list m) o)
  story_listed q = q.answers m (story_wf s)

  -- and so do two lists side by side
  pub story_paired : {checks : Map → List Check} {list beside : Map → List ℕ} {o p o' p' : List ℕ} {r : Result ℕ Refusal} → Paired w checks list beside o p r o' p'
      → (value_says r ≡ list_answer (checks m) (list m) (min (length o) (length p)))
      × (o' ≡ listed (list_answer (checks m) (list m) (min (length o) (length p))) (list m) o)
      × (p' ≡ listed (list_answer (checks m) (beside m) (min (length o) (length p))) (beside m) p)
  story_paired q =
      let u = q.entries.answers m (story_wf s) in
      let v = q.words.answers m (story_wf s) in
      (u.0, u.1, v.1)

  -- the whole check says yes
  pub story_whole : {r : Bool} → Whole w r → r ≡ true
  story_whole = whole_yes (story_wf s)
