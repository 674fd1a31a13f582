-- What the answer to a frame promises.
use Rattle.std.specs.Prelude.{◌≡◌, ◌||◌, List, [], ◌∷◌, ℕ, ◌≤◌, ltb, length, Result, ⊤, Ok, Err}
use Rattle.numbers.specs.Room.{room}
use Rattle.words.specs.Words.{part_of}
use Rattle.map.specs.declared.Refusal.{Refusal}
use Rattle.map.specs.Answers.{Answer, ◌when◌, answer}
use Rattle.map.specs.History.{Edit}
use Rattle.map.specs.Says.{verdict_says}
use Rattle.journal_store.specs.Entries.{head_words, places_of}
use Rattle.frames.specs.declared.Frame as Code
use Rattle.frames.specs.Frames.{Frame, Format, Change, Journal, begun, reply_to, journal_after, written}
use Rattle.frames.specs.Forms.{carried, marks_carried, Unlicensed, Appended}
use Rattle.reply.specs.Memory.{Memory, memory, Keeps, Within, reach, Inside}

-- "more is refused with 1"; memory without room for 384 marks and 384 cells, or for a journal's head, with 2
unfoldable pub format_answer : ℕ → ℕ → Memory → Answer
format_answer marks cells w =
    answer
    ((1 when ltb 384 marks || ltb 384 cells)
    ∷ (2 when ltb (length w.mesh) (room 384 384) || (ltb (length w.journal) head_words || ltb (length w.start) (room 384 384)))
    ∷ [])
    []

-- "its start and each accepted f0 begin one": a mesh formatted and its journal begun, both or neither
pub record FormattedBegun (marks cells : ℕ) (w : Memory) (r : Result ⊤ Refusal) (w' : Memory) : Type 0 where
  pub says : verdict_says r ≡ format_answer marks cells w
  pub kept : (why : Refusal) → r ≡ Err why → w' ≡ w
  pub within : Within (reach (Format marks cells) w) w w'
  pub keeps : r ≡ (Ok tt) → Keeps w' (begun (places_of (length w.journal)) marks cells)

-- the memory w answered a frame, on any memory with the line of an answer, 775 bytes at most, appended to o; where it is that of a
-- journal, it is the frame's answer, and what is left is the memory of the journal afterwards
pub record FrameAnswered (f : Frame) (w : Memory) (o : List ℕ) (at r : ℕ) (w' : Memory) (o' : List ℕ) : Type 0 where
  pub says : Answer
  pub few : length (written says) ≤ 775
  pub appended : Appended (written says) o at r o'
  -- a refusal changes nothing, and no frame changes a word beyond its reach
  pub kept : (says.refusal ≡ 0 → ⊥) → w' ≡ w
  pub within : Within (reach f w) w w'
  pub answers : (g : Journal) → Keeps w g → (says ≡ reply_to g f) × Keeps w' (journal_after g f)

-- an edit leaves the starting map as it was, and a question all three
abbrev pub EditAnswered : ℕ → Edit → List ℕ → List ℕ → List ℕ → ℕ → ℕ → List ℕ → List ℕ → List ℕ → Type 0
EditAnswered day e w j o at r w' j' o' = (start : List ℕ) → FrameAnswered (Change day e) (memory w j start) o at r (memory w' j' start) o'

abbrev pub QuestionAnswered : Frame → List ℕ → List ℕ → ℕ → ℕ → List ℕ → Type 0
QuestionAnswered f w o at r o' = (j start : List ℕ) → FrameAnswered f (memory w j start) o at r (memory w j start) o'

-- the same of a frame as the code carries it, with the marks of an insert in the first places of marks
abbrev pub Obeyed : Code.Frame → List ℕ → Memory → List ℕ → ℕ → ℕ → Memory → List ℕ → Type 0
Obeyed frame marks w o at r w' o' = (f : Frame) → Unlicensed f → frame ≡ carried f → part_of marks 0 (length (marks_carried f)) ≡ marks_carried f → FrameAnswered f w o at r w' o'

-- and no word beyond the room of 384 marks and 384 cells changes, on any memory
pub record Replied (f : Frame) (w : Memory) (o : List ℕ) (at r : ℕ) (w' : Memory) (o' : List ℕ) : Type 0 where
  pub answered : FrameAnswered f w o at r w' o'
  pub inside : Inside w w'
