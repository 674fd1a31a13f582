-- Two well-formed memories of one map answer alike. So do the mesh that a story leaves and the one that is built afresh from its live cells, which
-- has the same words, is whole, and in the mesh's own memory leaves all as it was.
use mathlib.Core.Path.{◌≡◌, sym, ◌∙◌}
use mathlib.Core.Bool.{Bool, true}
use mathlib.Core.List.{List}
use Prim.Native.Nat.{ℕ, ◌≤◌}
use lib.ListN.{length, take}
use Rattle.numbers.specs.Room.{room}
use Rattle.words.proofs.Frame.{only_none, only_one}
use Rattle.map.specs.Cells.{Live, Map, live_cells}
use Rattle.map.specs.Afresh.{Shuffled, build_words}
use Rattle.map.specs.Answers.{Check, answer}
use Rattle.map.specs.declared.Unbuilt.{Unbuilt}
use Rattle.map.specs.declared.Refusal.{Refusal}
use Rattle.std.specs.Prelude.{Result, ⊤}
use Rattle.map.proofs.Says.{value_one}
use Rattle.picture.specs.Picture.{Wf}
use Rattle.picture.proofs.Put.{wf_one}
use Rattle.ask.specs.Asked.{Asked, Handed}
use Rattle.listing.specs.Listing.{Listing, Paired}
use Rattle.build.specs.Builds.{Builds}
use Rattle.whole.specs.Whole.{Whole}
use Rattle.whole.proofs.One.{whole_yes}
use Rattle.stories.specs.Story.{Story}
use Rattle.stories.proofs.Stories.{story_wf}
use Rattle.stories.proofs.Afresh.{afresh_wf}

-- Two well-formed memories of one map answer every query alike. So, where they are one memory, nothing else fits the promise of a query.
module _ {a b : List ℕ} {m : Map} (x : Wf a m) (y : Wf b m) where
  pub asked_alike : {A B : Type 0} {says : A → B} {noMesh : A} {answer : Map → B} {r r' : A}
      → Asked says noMesh a answer r → Asked says noMesh b answer r' → says r ≡ says r'
  asked_alike p q = p.answers m x ∙ sym (q.answers m y)

  pub handed_alike : {part : Map → List ℕ} {r r' : List ℕ} → Handed a part r → Handed b part r' → r ≡ r'
  handed_alike p q = p.answers m x ∙ sym (q.answers m y)

  pub listed_alike : {checks : Map → List Check} {list : Map → List ℕ} {o o' o'' : List ℕ} {r r' : Result ℕ Refusal}
      → Listing a checks list o r o' → Listing b checks list o r' o'' → (r ≡ r') × (o' ≡ o'')
  listed_alike {r = r} {r'} p q =
      let u = p.answers m x in
      let v = q.answers m y in
      (value_one r r' (u.0 ∙ sym v.0), u.1 ∙ sym v.1)

  pub paired_alike : {checks : Map → List Check} {list beside : Map → List ℕ} {o p o' p' o'' p'' : List ℕ} {r r' : Result ℕ Refusal}
      → Paired a checks list beside o p r o' p' → Paired b checks list beside o p r' o'' p'' → (r ≡ r') × (o' ≡ o'') × (p' ≡ p'')
  paired_alike {r = r} {r'} p q =
      let u = p.entries.answers m x in
      let v = q.entries.answers m y in
      (value_one r r' (u.0 ∙ sym v.0), u.1 ∙ sym v.1, (p.words.answers m x).1 ∙ sym (q.words.answers m y).1)

module _ {w : List ℕ} {m : Map} (s : Story w m) (other : List Live) (order : Shuffled (live_cells m) other) {b b' : List ℕ} {r : Result ⊤ Unbuilt}
    (builds : Builds b m.caps (build_words other) r b') (fits : room m.caps.marks m.caps.cells ≤ length b) where
  -- a mesh built afresh has the same words, all over the room
  pub afresh_words : take (room m.caps.marks m.caps.cells) b' ≡ take (room m.caps.marks m.caps.cells) w
  afresh_words = wf_one b' w m (afresh_wf s other order builds fits) (story_wf s)

  -- and every query answers on both alike
  pub afresh_asked : {A B : Type 0} {says : A → B} {noMesh : A} {answer : Map → B} {x y : A}
      → Asked says noMesh w answer x → Asked says noMesh b' answer y → says x ≡ says y
  afresh_asked = asked_alike (story_wf s) (afresh_wf s other order builds fits)

  -- hands back the same part
  pub afresh_handed : {part : Map → List ℕ} {x y : List ℕ} → Handed w part x → Handed b' part y → x ≡ y
  afresh_handed = handed_alike (story_wf s) (afresh_wf s other order builds fits)

  -- gives the same list, in the same output
  pub afresh_listed : {checks : Map → List Check} {list : Map → List ℕ} {o o' o'' : List ℕ} {x y : Result ℕ Refusal}
      → Listing w checks list o x o' → Listing b' checks list o y o'' → (x ≡ y) × (o' ≡ o'')
  afresh_listed = listed_alike (story_wf s) (afresh_wf s other order builds fits)

  -- and so do two lists side by side
  pub afresh_paired : {checks : Map → List Check} {list beside : Map → List ℕ} {o p o' p' o'' p'' : List ℕ} {x y : Result ℕ Refusal}
      → Paired w checks list beside o p x o' p' → Paired b' checks list beside o p y o'' p'' → (x ≡ y) × (o' ≡ o'') × (p' ≡ p'')
  afresh_paired = paired_alike (story_wf s) (afresh_wf s other order builds fits)

  -- the whole check says yes of it
  pub afresh_whole : {x : Bool} → Whole b' x → x ≡ true
  afresh_whole = whole_yes (afresh_wf s other order builds fits)

-- the evening's rebuild in the afternoon's own memory, from its live cells in any order, leaves every word as it was
pub rebuilt_in_place : {w w' : List ℕ} {m : Map} {r : Result ⊤ Unbuilt} → Story w m → (other : List Live) → Shuffled (live_cells m) other
    → Builds w m.caps (build_words other) r w' → w' ≡ w
rebuilt_in_place s other order builds =
    only_one builds.inside only_none (afresh_words s other order builds (story_wf s).picture.fits)
