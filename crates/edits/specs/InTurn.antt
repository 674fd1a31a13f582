-- What a list of edits promises: memory that is no mesh is refused with 14; nothing beyond the room changes; in the room the edits are made
-- as if called one by one, on any memory; on well-formed memory the answer is the definition's, and what is left is the well-formed
-- memory of the morning's map.
use Rattle.std.specs.Prelude.{◌≡◌, true, false, List, [], ◌∷◌, ℕ, suc, ◌<◌, ◌≤◌, length, take, drop, Result, ⊤, Ok, Err}
use Rattle.words.specs.Words.{Only}
use Rattle.store.specs.Open.{room_in, is_mesh}
use Rattle.map.specs.Cells.{Map}
use Rattle.map.specs.History.{Edit}
use Rattle.map.specs.Says.{number_of, edits_says, StoppedAt}
use Rattle.map.specs.declared.Refusal.{Refusal}
use Rattle.map.specs.declared.Refusal.TheVariants.{NotMesh}
use Rattle.map.specs.declared.Stopped.{Stopped}
use Rattle.picture.specs.Picture.{Wf}
use Rattle.mesh.specs.Edited.{Edited}
use Rattle.map.specs.Morning.{Is, Not, turn, read_from, morning, told}

-- what a verdict says of an edit that takes so many words behind its kind
unfoldable pub step_of : Result ⊤ Refusal → ℕ → Result ℕ Refusal
step_of (Ok tt) n = Ok n
step_of (Err why) n = Err why

-- one edit at its turn: none there, refused by its own checks, or made, with the words that it takes as far as there are so many
pub data Turned (w : List ℕ) (kind : ℕ) (words : List ℕ) : Result ℕ Refusal → List ℕ → Type 0 where
  none : (why : Refusal) → turn kind words ≡ Not (number_of why) → Turned w kind words (Err why) w
  refused : {w' : List ℕ} {e : Edit} {n : ℕ} (why : Refusal) → turn kind words ≡ Is e n → Edited w e (Err why) w'
      → Turned w kind words (Err why) w'
  made : {w' : List ℕ} {e : Edit} {n : ℕ} (k : ℕ) → turn kind words ≡ Is e n → k ≤ length words → drop k words ≡ drop n words → Edited w e (Ok tt) w'
      → Turned w kind words (Ok k) w'

-- the number made, stopped or not
abbrev pub made_of : Result ℕ Stopped → ℕ
made_of (Ok n) = n
made_of (Err e) = e.made

-- an answer with one more made
abbrev pub one_more : Result ℕ Stopped → Result ℕ Stopped
one_more (Ok n) = Ok (suc n)
one_more (Err e) = StoppedAt (suc e.made) e.why

-- edits made in memory in turn, "stopping at the first refusal; the edits before it stay"; `last` is the refusal behind the last, 0 for none
pub data InTurn : List ℕ → List Edit → ℕ → Result ℕ Stopped → List ℕ → Type 0 where
  all : {w : List ℕ} → InTurn w [] 0 (Ok 0) w
  none : {w : List ℕ} (why : Refusal) → InTurn w [] (number_of why) (StoppedAt 0 why) w
  refused : {w w' : List ℕ} {e : Edit} {es : List Edit} {last : ℕ} (why : Refusal) → Edited w e (Err why) w'
      → InTurn w (e ∷ es) last (StoppedAt 0 why) w'
  made : {w w₁ w' : List ℕ} {e : Edit} {es : List Edit} {last : ℕ} {r : Result ℕ Stopped} → Edited w e (Ok tt) w₁ → InTurn w₁ es last r w'
      → InTurn w (e ∷ es) last (one_more r) w'

pub record ListEdited (w list : List ℕ) (r : Result ℕ Stopped) (w' : List ℕ) : Type 0 where
  pub refused : is_mesh w ≡ false → (r ≡ StoppedAt 0 NotMesh) × (w' ≡ w)
  pub inside : Only (λ i. i < room_in w) w w'
  -- the words of the room
  pub turns : is_mesh w ≡ true
      → InTurn (take (room_in w) w) (read_from 0 list).edits (read_from 0 list).last r (take (room_in w) w')
  pub answers : (m : Map) → Wf w m → (edits_says r ≡ told (morning m list)) × Wf w' (morning m list).map
