-- What a query for a day and a fold promise: 14 for memory that is none; a refusal changes nothing, on any memory; nothing is written behind the
-- room, nor behind the last edit that fits; on memory kept by these calls the answer is the definition's, and what is left is kept.
use Rattle.std.specs.Prelude.{◌≡◌, false, cond, List, ℕ, ◌<◌, ltb, length, Result, ⊤, Ok, Err}
use Rattle.numbers.specs.Room.{room}
use Rattle.words.specs.Words.{Only}
use Rattle.store.specs.Open.{room_in, caps_in}
use Rattle.map.specs.Cells.{Map}
use Rattle.map.specs.Says.{verdict_says}
use Rattle.map.specs.declared.Refusal.{Refusal}
use Rattle.map.specs.declared.Refusal.TheVariants.{NotMesh, MemoryShort, DayFolded}
use Rattle.numbers.specs.declared.Caps.{Caps}
use Rattle.picture.specs.Picture.{Wf}
use Rattle.journal_store.specs.Days.{Dated, map_on, before_fold, on_answer, fold_answer, fold_after}
use Rattle.journal_store.specs.Entries.{used_of}
use Rattle.journal_store.specs.Journals.{fold_in}
use Rattle.journal.specs.Kept.{Filed, both}

-- what opens a query for a day: 14, "query 21 for a day before the last fold, then 2"
unfoldable pub day_opened : List ℕ → List ℕ → ℕ → ℕ → Result Caps Refusal
day_opened j start day words =
    cond (both start j)
    (cond (before_fold (fold_in j) day) (Err DayFolded) (cond (ltb words (room_in start)) (Err MemoryShort) (Ok (caps_in start))))
    (Err NotMesh)

-- "Asked for a day, write into second mesh memory a mesh whose answers equal those after all edits of that day and earlier ones"
pub record OnDay (j start : List ℕ) (day : ℕ) (second : List ℕ) (r : Result ⊤ Refusal) (second' : List ℕ) : Type 0 where
  pub refused : both start j ≡ false → r ≡ Err NotMesh
  pub kept : (why : Refusal) → r ≡ Err why → second' ≡ second
  pub inside : Only (λ i. i < room_in start) second second'
  pub answers : (m : Map) (past : List Dated) (fold : ℕ) → Filed m past fold j start
      → (verdict_says r ≡ on_answer fold day (room m.caps.marks m.caps.cells) (length second)) × (r ≡ (Ok tt) → Wf second' (map_on m past day))

-- "Folding through day F moves the edits up to F into the starting map and frees their room"
pub record Folded (j start : List ℕ) (day : ℕ) (r : Result ⊤ Refusal) (j' start' : List ℕ) : Type 0 where
  pub refused : both start j ≡ false → r ≡ Err NotMesh
  pub kept : (why : Refusal) → r ≡ Err why → (j' ≡ j) × (start' ≡ start)
  pub within : Only (λ i. i < used_of (length j)) j j'
  pub inside : Only (λ i. i < room_in start) start start'
  pub answers : (m : Map) (past : List Dated) (fold : ℕ) → Filed m past fold j start
      → (verdict_says r ≡ fold_answer past fold day) × Filed m past (fold_after past fold day) j' start'
