-- Two edits of two crews, made in memory by the calls in both orders: "each gets the same answer both times, and every query answers alike at
-- the end".
use mathlib.Core.Path.{◌≡◌, sym, ap, ◌∙◌}
use mathlib.Core.Bool.{Bool, true}
use mathlib.Core.List.{List}
use Prim.Native.Nat.{ℕ, ◌≤◌}
use lib.ListN.{length}
use Rattle.numbers.specs.declared.Caps.{Caps}
use Rattle.shapes.specs.Sizes.{most_code}
use Rattle.store.specs.Fields.{Count}
use Rattle.store.specs.Slots.{InHead, read}
use Rattle.map.specs.Cells.{Map, cells_of}
use Rattle.map.specs.Answers.{Check, Answer}
use Rattle.map.specs.History.{Edit, edited, history}
use Rattle.map.specs.declared.Refusal.{Refusal}
use Rattle.std.specs.Prelude.{Result, ⊤}
use Rattle.map.proofs.Says.{verdict_one}
use Rattle.laws.proofs.Edits.{edited_caps}
use Rattle.picture.specs.Picture.{Wf}
use Rattle.ask.specs.Asked.{Asked, Handed}
use Rattle.listing.specs.Listing.{Listing, Paired}
use Rattle.mesh.specs.Edited.{Edited}
use Rattle.mesh.specs.Run.{done, then}
use Rattle.mesh.proofs.Evening.{one_memory}
use Rattle.whole.specs.Whole.{Whole}
use Rattle.whole.proofs.One.{whole_yes}
use Rattle.stories.proofs.Alike.{asked_alike, handed_alike, listed_alike, paired_alike}
use Rattle.stories.proofs.Records.{count_listed}
use Rattle.crews.specs.Crews.{TwoCrews}
use Rattle.crews.proofs.Answered.{answer_kept}
use Rattle.crews.proofs.Swapped.{crews_swap, edited_swap}

-- the second of two edits gets the answer that it gets without the first
second_answer : {w w' w'' : List ℕ} {m : Map} {a b : Edit} {r s : Result ⊤ Refusal} → Wf w m → TwoCrews m a b → Edited w a r w' → Edited w' b s w''
    → {s' : Result ⊤ Refusal} {v : List ℕ} → Edited w b s' v → s ≡ s'
second_answer {m = m} {a} {b} {s = s} wf crews first second {s'} alone =
    verdict_one s s'
    ((second.answers (edited m a) (first.answers m wf).1).0
    ∙ (answer_kept m wf.sound b a (crews_swap crews) ∙ sym (alone.answers m wf).0))

module _ {w : List ℕ} {m : Map} {a b : Edit} (wf : Wf w m) (crews : TwoCrews m a b)
    {ra rb ra' rb' : Result ⊤ Refusal} {w₁ w₂ w₁' w₂' : List ℕ}
    (first : Edited w a ra w₁) (second : Edited w₁ b rb w₂)
    (first' : Edited w b rb' w₁') (second' : Edited w₁' a ra' w₂') where
  -- "each gets the same answer both times"
  pub same_answers : (ra ≡ ra') × (rb ≡ rb')
  same_answers = (sym (second_answer wf (crews_swap crews) first' second' first), second_answer wf crews first second first')

  -- memory at the end is the same, word for word, in the room and beyond
  pub same_memory : w₂ ≡ w₂'
  unfolding history
  same_memory = one_memory (then ra first (then rb second done)) (then rb' first' (then ra' second' done)) m wf (edited_swap m wf.sound a b crews)

  -- and well-formed, of one map
  pub same_map : Wf w₂ (edited (edited m a) b) × Wf w₂' (edited (edited m a) b)
  same_map = let end = (second.answers (edited m a) (first.answers m wf).1).1 in (end, rw same_memory at end)

  -- "every query answers alike at the end"
  pub crews_asked : {A : Type 0} {says : A → Answer} {noMesh : A} {answer : Map → Answer} {x y : A}
      → Asked says noMesh w₂ answer x → Asked says noMesh w₂' answer y → says x ≡ says y
  crews_asked = asked_alike same_map.0 same_map.1

  pub crews_handed : {part : Map → List ℕ} {x y : List ℕ} → Handed w₂ part x → Handed w₂' part y → x ≡ y
  crews_handed = handed_alike same_map.0 same_map.1

  pub crews_listed : {checks : Map → List Check} {list : Map → List ℕ} {o o' o'' : List ℕ} {x y : Result ℕ Refusal}
      → Listing w₂ checks list o x o' → Listing w₂' checks list o y o'' → (x ≡ y) × (o' ≡ o'')
  crews_listed = listed_alike same_map.0 same_map.1

  pub crews_paired : {checks : Map → List Check} {list beside : Map → List ℕ} {o p o' p' o'' p'' : List ℕ} {x y : Result ℕ Refusal}
      → Paired w₂ checks list beside o p x o' p' → Paired w₂' checks list beside o p y o'' p'' → (x ≡ y) × (o' ≡ o'') × (p' ≡ p'')
  crews_paired = paired_alike same_map.0 same_map.1

  -- the whole check says yes both times
  pub crews_whole : {x y : Bool} → Whole w₂ x → Whole w₂' y → (x ≡ true) × (y ≡ true)
  crews_whole p q = (whole_yes same_map.0 p, whole_yes same_map.1 q)

  -- "Live counts .. are equal as well": the head's count of each type, and it is the length of the defined list
  pub crews_counts : (t : ℕ) → 1 ≤ t → t ≤ most_code
      → (read w₂ m.caps (InHead (Count t)) ≡ read w₂' m.caps (InHead (Count t)))
      × (read w₂ m.caps (InHead (Count t)) ≡ length (cells_of (edited (edited m a) b) t))
  crews_counts t low high =
      let caps : (edited (edited m a) b).caps ≡ m.caps = edited_caps (edited m a) b ∙ edited_caps m a in (
        ap (λ (w : List ℕ). read w m.caps (InHead (Count t))) same_memory,
        sym (ap (λ (k : Caps). read w₂ k (InHead (Count t))) caps) ∙ count_listed same_map.0 t low high,
      )
