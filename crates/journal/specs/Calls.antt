-- What each call promises: 14 for memory that is none; a refusal changes nothing, on any memory; nothing is written behind the room, nor behind
-- the last edit that fits; on memory kept by these calls the answer is the definition's, and what is left is kept.
use Rattle.std.specs.Prelude.{◌≡◌, Bool, true, false, cond, List, [], ◌∷◌, ◌++◌, ℕ, ◌+◌, ◌<◌, leb, ltb, length, Result, ⊤, Ok, Err}
use Rattle.numbers.specs.Room.{room}
use Rattle.numbers.specs.declared.Caps.{Caps}
use Rattle.words.specs.Words.{Only}
use Rattle.store.specs.Open.{room_in, caps_in, is_mesh}
use Rattle.map.specs.Cells.{Map}
use Rattle.map.specs.Says.{verdict_says}
use Rattle.map.specs.declared.Refusal.{Refusal}
use Rattle.map.specs.declared.Refusal.TheVariants.{NotMesh, CapacityAbove, DayBefore, JournalFull}
use Rattle.picture.specs.Picture.{Wf}
use Rattle.journal_store.specs.Days.{Dated, most_day, begin_answer, enter_answer, entered}
use Rattle.journal_store.specs.Entries.{places_of, used_of, words_of}
use Rattle.journal_store.specs.Journals.{last_in, entries_in, Pictured}
use Rattle.journal.specs.Kept.{Kept, both}

-- "A new journal copies the mesh into a third memory, the starting map"
pub record Begun (mesh j start : List ℕ) (r : Result ⊤ Refusal) (j' start' : List ℕ) : Type 0 where
  pub refused : is_mesh mesh ≡ false → r ≡ Err NotMesh
  pub kept : (why : Refusal) → r ≡ Err why → (j' ≡ j) × (start' ≡ start)
  pub within : Only (λ i. i < used_of (length j)) j j'
  pub inside : Only (λ i. i < room_in mesh) start start'
  pub answers : (m : Map) → Wf mesh m
      → (verdict_says r ≡ begin_answer (room m.caps.marks m.caps.cells) (length j) (length start)) × (r ≡ (Ok tt) → Kept m [] 0 mesh j' start')

-- what opens an entry: 14, 1, 20
unfoldable pub entry_opened : List ℕ → List ℕ → ℕ → Result Caps Refusal
entry_opened mesh j day =
    cond (both mesh j)
    (cond (ltb most_day day) (Err CapacityAbove) (cond (ltb day (last_in j)) (Err DayBefore) (Ok (caps_in mesh))))
    (Err NotMesh)

-- no place is left
unfoldable pub full_in : List ℕ → Bool
full_in j = leb (places_of (length j)) (entries_in j)

-- in a full journal: the mesh's own refusal, "then 23"
unfoldable pub full_verdict : Result Caps Refusal → Result ⊤ Refusal
full_verdict (Err why) = Err why
full_verdict (Ok caps) = Err JournalFull

-- an entry behind the others
pub record Appended (j : List ℕ) (caps : Caps) (day : ℕ) (words : List ℕ) (j' : List ℕ) : Type 0 where
  pub within : Only (λ i. i < used_of (length j)) j j'
  pub pictured : (es : List Dated) (last ever fold : ℕ) (e : Dated) → words_of e ≡ words → Pictured j caps es last ever fold
      → length es < places_of (length j) → Pictured j' caps (es ++ (e ∷ [])) day 1 fold

-- "each accepted edit with its day number"
pub record Entered (mesh j : List ℕ) (e : Dated) (r : Result ⊤ Refusal) (mesh' j' : List ℕ) : Type 0 where
  pub refused : both mesh j ≡ false → r ≡ Err NotMesh
  pub kept : (why : Refusal) → r ≡ Err why → (mesh' ≡ mesh) × (j' ≡ j)
  pub within : Only (λ i. i < used_of (length j)) j j'
  pub inside : Only (λ i. i < room_in mesh) mesh mesh'
  pub answers : (m : Map) (past : List Dated) (fold : ℕ) (start : List ℕ) → Kept m past fold mesh j start
      → (verdict_says r ≡ enter_answer m past fold (places_of (length j)) e)
      × Kept m (entered m past fold (places_of (length j)) e) fold mesh' j' start
