-- What the matcher promises: 14 for memory that is none; a refusal leaves the list, on any memory; nothing is written behind the room in second
-- memory, nor behind the count in the list; on memory kept by the journal's calls the answer and both memories are the definition's.
use Rattle.std.specs.Prelude.{◌≡◌, false, cond, List, [], ℕ, ◌<◌, ◌≤◌, leb, length, Result, Ok, Err}
use Rattle.words.specs.Words.{Only}
use Rattle.store.specs.Open.{room_in}
use Rattle.map.specs.Cells.{Map}
use Rattle.map.specs.Answers.{answer}
use Rattle.map.specs.Says.{value_says}
use Rattle.map.specs.declared.Refusal.{Refusal}
use Rattle.map.specs.declared.Refusal.TheVariants.{NotMesh, MarkOutside}
use Rattle.numbers.specs.declared.Caps.{Caps}
use Rattle.picture.specs.Picture.{Wf}
use Rattle.listing.specs.Listing.{listed}
use Rattle.journal_store.specs.Days.{Dated, map_on}
use Rattle.journal.specs.Kept.{Filed, both}
use Rattle.year.specs.Calls.{day_opened}
use Rattle.matcher.specs.Licences.{licences_on, complaint_checks, licences_answer}

-- what opens a complaint: what opens its day, then 8
unfoldable pub mark_opened : Result Caps Refusal → ℕ → Result Caps Refusal
mark_opened (Err why) v = Err why
mark_opened (Ok caps) v = cond (leb caps.marks v) (Err MarkOutside) (Ok caps)

abbrev pub complaint_opened : List ℕ → List ℕ → ℕ → ℕ → ℕ → Result Caps Refusal
complaint_opened j start day v words = mark_opened (day_opened j start day words) v

-- "12 leaves that day's mesh in the second memory", as an answer does; the others leave it as it was
pub record Second (m : Map) (past : List Dated) (fold day v : ℕ) (second second' : List ℕ) : Type 0 where
  pub opened : (answer (complaint_checks m fold day v (length second)) []).refusal ≡ 0 → Wf second' (map_on m past day)
  pub kept : ((answer (complaint_checks m fold day v (length second)) []).refusal ≡ 0 → ⊥) → second' ≡ second

-- "lists for a mark and a day the licences of all cells then around it, of every dimension, ascending, each once, 0 left out"
pub record Named (j start : List ℕ) (day v : ℕ) (second out : List ℕ) (r : Result ℕ Refusal) (second' out' : List ℕ) : Type 0 where
  pub refused : both start j ≡ false → (r ≡ Err NotMesh) × (second' ≡ second)
  pub kept : (why : Refusal) → r ≡ Err why → out' ≡ out
  pub inside : Only (λ i. i < room_in start) second second'
  pub first : (n : ℕ) → r ≡ Ok n → (n ≤ length out) × Only (λ i. i < n) out out'
  pub answers : (m : Map) (past : List Dated) (fold : ℕ) → Filed m past fold j start
      → (value_says r ≡ licences_answer m past fold day v (length second) (length out))
      × (out' ≡ listed (licences_answer m past fold day v (length second) (length out)) (licences_on m past day v) out)
      × Second m past fold day v second second'
