-- What the public calls promise.
use Rattle.std.specs.Prelude.{◌≡◌, Bool, true, false, cond, ◌&&◌, List, [], ◌∷◌, ◌++◌, ℕ, suc, ◌+◌, ◌-◌, ◌<◌, ◌≤◌, eqb, ltb, length, set, take, drop, Result, ⊤, Ok}
use Rattle.words.specs.Words.{Only, part_of}
use Rattle.map.specs.declared.Refusal.{Refusal}
use Rattle.journal_store.specs.Entries.{places_of}
use Rattle.frames.specs.Frames.{frame_of, Journal, begun, reply_to, journal_after, written, output_from}
use Rattle.frames.specs.Forms.{Appended}
use Rattle.reply.specs.Memory.{Memory, Inside}
use Rattle.reply.specs.Replied.{FormattedBegun, Replied}
use Rattle.input.specs.declared.Fed.{Fed}
use Rattle.input.specs.declared.Places.{Places}
use Rattle.input.specs.Standing.{Lined, Standing, Reached}

-- "It starts with capacities 0 and 0", and "its start .. begin[s]" a journal; memory without room is refused and stays as it was
pub record Started (w : Memory) (r : Result ⊤ Refusal) (w' : Memory) : Type 0 where
  pub begins : FormattedBegun 0 0 w r w'
  pub stands : r ≡ (Ok tt) → (line : List ℕ) → 65 ≤ length line → Standing w' line 0 (begun (places_of (length w.journal)) 0 0) []

-- a line has a place for one byte more: 65 are kept, as far as it is so long
unfoldable pub has_place : List ℕ → ℕ → Bool
has_place line n = ltb n 65 && ltb n (length line)

-- a byte of a line kept, where there is a place for it
pub record KeptByte (line : List ℕ) (n b r : ℕ) (line' : List ℕ) : Type 0 where
  pub count : r ≡ cond (has_place line n) (n + 1) n
  pub bytes : line' ≡ cond (has_place line n) (set line n b) line
  pub more : (l : List ℕ) → Lined line n l → Lined line' r (l ++ (b ∷ []))

-- one byte of the input taken, on any memory
pub record Taken (w : Memory) (line : List ℕ) (n b : ℕ) (o : List ℕ) (at : ℕ) (r : Places) (w' : Memory) (line' o' : List ℕ) : Type 0 where
  -- the end of a line: what is kept of it is answered, and the next begins
  pub ends : b ≡ 10 → Replied (frame_of (part_of line 0 n)) w o at r.out w' o' × (line' ≡ line) × (r.line ≡ 0)
  -- any other byte is kept, and nothing else changes
  pub goes : (b ≡ 10 → ⊥) → KeptByte line n b r.line line' × (w' ≡ w) × (o' ≡ o) × (r.out ≡ at)

-- the lent memory on the way through a piece: that of the journal, the line and how much of it is kept, the output and the place reached in it
pub record Lent : Type 0 where
  pub memory : Memory
  pub line : List ℕ
  pub kept : ℕ
  pub out : List ℕ
  pub at : ℕ

abbrev pub lent : Memory → List ℕ → ℕ → List ℕ → ℕ → Lent
lent w line n o at = record { memory = w; line = line; kept = n; out = o; at = at }

-- bytes taken one after another, each while there is room for any answer
pub data OneByOne : Lent → List ℕ → Lent → Type 0 where
  none : {s : Lent} → OneByOne s [] s
  more : {s : Lent} {w : Memory} {line o : List ℕ} {w' : Memory} {line' o' bytes : List ℕ} {n at : ℕ} (b : ℕ) (r : Places) → OneByOne s bytes (lent w line n o at) → at + 775 ≤ length o
      → Taken w line n b o at r w' line' o' → OneByOne s (bytes ++ (b ∷ [])) (lent w' line' r.line o' r.out)

-- how many bytes of a piece are taken, from a journal and the line read so far: all for which there is room for any answer
unfoldable pub taken_from : ℕ → Journal → List ℕ → List ℕ → ℕ
taken_from room g line [] = 0
taken_from room g line (b ∷ rest) =
    elim (ltb room 775) [
      | true ↦ 0
      | false ↦ elim (eqb b 10) [
        | true ↦ suc (taken_from (room - length (written (reply_to g (frame_of line)))) (journal_after g (frame_of line)) [] rest)
        | false ↦ suc (taken_from room g (line ++ (b ∷ [])) rest)
      ]
    ]

-- a piece of the input taken, as far as the output has room
pub record Feeding (w : Memory) (line : List ℕ) (n : ℕ) (piece o : List ℕ) (r : Fed) (w' : Memory) (line' o' : List ℕ) : Type 0 where
  -- its first bytes one after another, on any memory
  pub bytes : OneByOne (lent w line n o 0) (take r.taken piece) (lent w' line' r.length o' r.written)
  -- the bytes written stand in the first places of the output, and all behind them is as it was
  pub text : List ℕ
  pub written : r.written ≡ length text
  pub fits : length text ≤ length o
  pub out : o' ≡ text ++ drop (length text) o
  -- bytes of the piece are taken while there is room for any answer
  pub taken : r.taken ≤ length piece
  pub goes : 0 < length piece → 775 ≤ length o → 0 < r.taken
  pub stops : r.taken < length piece → length o < r.written + 775
  -- no word beyond the room of 384 marks and 384 cells or behind the last edit that fits changes, and no byte of the line beyond the 65 that
  -- are kept or beyond its length and the bytes taken
  pub inside : Inside w w'
  pub in_line : Only (λ i. (i < 65) × (i < n + r.taken)) line line'
  -- where memory stands for a journal and a line, so many bytes are taken, the text is their output, and memory stands for what comes of them
  pub stands : (g : Journal) (l : List ℕ) → Standing w line n g l
      → (r.taken ≡ taken_from (length o) g l piece) × Reached g l (take r.taken piece) text w' line' r.length

-- the end of the input: "a last line without its end is 15"
pub record Finished (n : ℕ) (o : List ℕ) (r : ℕ) (o' : List ℕ) : Type 0 where
  pub text : List ℕ
  pub few : length text ≤ 3
  pub appended : Appended text o 0 r o'
  pub ends : (w : Memory) (line : List ℕ) (g : Journal) (l : List ℕ) → Standing w line n g l → text ≡ output_from g l []
