-- What the program does between the calls of the system, and what comes of all its turns.
use Rattle.std.specs.Prelude.{◌≡◌, true, false, cond, List, [], ◌++◌, ℕ, suc, ◌+◌, ◌-◌, ◌<◌, ◌≤◌, min, ltb, length, take, Option, Some, None, is_none, Result, Ok, Err}
use Rattle.std.specs.IoError.{error_kind}
use Rattle.std.specs.declared.io.Error.{Error}
use Rattle.std.specs.declared.io.ErrorKind.TheVariants.{Interrupted}
use Rattle.words.specs.Words.{part_of}
use Rattle.frames.specs.Frames.{output}
use Rattle.reply.specs.Memory.{Memory}
use Rattle.input.specs.declared.Fed.{Fed}
use Rattle.input.specs.Fed.{Feeding, Finished}
use Rattle.desk.specs.declared.Turn.{Turn}

-- the part of the piece that is not taken yet
unfoldable pub rest : List ℕ → Turn → List ℕ
rest piece t = part_of piece t.from (t.to - t.from)

-- what is left of a piece is fed, and as many bytes of the output are written as that gave
pub record Answered (w : Memory) (line : List ℕ) (t : Turn) (piece o : List ℕ) (r : Turn) (w' : Memory) (line' o' : List ℕ) : Type 0 where
  pub fed : Fed
  pub feeding : Feeding w line t.length (rest piece t) o fed w' line' o'
  pub kept : r.length ≡ fed.length
  pub from : r.from ≡ t.from + fed.taken
  pub to : r.to ≡ t.to
  pub wrote : r.wrote ≡ fed.written
  pub goes : r.ended ≡ false
  pub stops : r.on ≡ is_none r.failed

-- the end of the input: the answer to a last line without its end is written
pub record EndAnswered (n : ℕ) (o : List ℕ) (r : Turn) (o' : List ℕ) : Type 0 where
  pub finished : Finished n o r.wrote o'
  pub ends : r.ended ≡ true
  pub stops : r.on ≡ false
  pub nothing : r.to ≡ 0

-- how many bytes of the piece a read left, by its answer: none where it failed
abbrev pub counted : Result ℕ Error → ℕ → ℕ
counted (Ok k) most = min k most
counted (Err e) most = 0

-- what a read fails by: nothing where it got bytes, or where a signal interrupted it, so that it is tried again
abbrev pub FailsBy : Result ℕ Error → Option Error → Type 0
FailsBy (Ok k) failed = failed ≡ None
FailsBy (Err e) failed = (error_kind e ≡ Interrupted → failed ≡ None) × ((error_kind e ≡ Interrupted → ⊥) → failed ≡ Some e)

-- what comes of a read that answered got: 0 is the end of the input, else the piece holds as many bytes as it says; a failure stops
pub record AfterRead (got : Result ℕ Error) (n : ℕ) (piece o : List ℕ) (r : Turn) (o' : List ℕ) : Type 0 where
  pub end : got ≡ Ok 0 → EndAnswered n o r o'
  pub more : (got ≡ Ok 0 → ⊥) → (r.ended ≡ false) × (r.length ≡ n) × (r.from ≡ 0) × (r.to ≡ counted got (length piece)) × (r.wrote ≡ 0)
  pub goes : 0 < counted got (length piece) → r.on ≡ true
  pub stops : (got ≡ Ok 0 → ⊥) → (r.on ≡ is_none r.failed) × FailsBy got r.failed

-- one turn: what is left of the piece is answered; where nothing is left, another is read
pub record Turned (w : Memory) (line : List ℕ) (t : Turn) (piece o : List ℕ) (r : Turn) (w' : Memory) (line' piece' o' : List ℕ) : Type 0 where
  pub answers : t.from < t.to → Answered w line t piece o r w' line' o' × (piece' ≡ piece)
  pub reads : t.to ≤ t.from → (got : Result ℕ Error) × AfterRead got t.length piece' o r o' × (w' ≡ w) × (line' ≡ line)

-- the bytes that a turn read: what the read left in the first places of the piece
unfoldable pub read_in : Turn → Turn → List ℕ → List ℕ
read_in t r piece = cond (ltb t.from t.to) [] (take r.to piece)

unfoldable pub begin : Turn
begin = record { on = true; ended = false; length = 0; from = 0; to = 0; wrote = 0; failed = None }

-- turns one after another, while each says to go on: how many, what they read, and what they wrote
pub data Turns : ℕ → Memory → List ℕ → Memory → List ℕ → List ℕ → Turn → List ℕ → List ℕ → Type 0 where
  begun : {w : Memory} {line piece : List ℕ} → Turns 0 w line w line piece begin [] []
  turned : {n : ℕ} {w₀ : Memory} {line₀ : List ℕ} {w : Memory} {line piece read wrote o : List ℕ} {w' : Memory} {line' piece' o' : List ℕ} {t r : Turn} → Turns n w₀ line₀ w line piece t read wrote → t.on ≡ true
      → 775 ≤ length o → Turned w line t piece o r w' line' piece' o'
      → Turns (suc n) w₀ line₀ w' line' piece' r (read ++ read_in t r piece') (wrote ++ take r.wrote o')

-- the program serves by turns and by nothing else, until one says to stop, or there have been 2 ^ 64 - 1
pub record Served (w : Memory) (line : List ℕ) (r : Turn) (w' : Memory) (line' : List ℕ) : Type 0 where
  pub count : ℕ
  pub piece : List ℕ
  pub read : List ℕ
  pub wrote : List ℕ
  pub turns : Turns count w line w' line' piece r read wrote
  pub stops : r.on ≡ true → count ≡ 18446744073709551615

-- from the start on: once the input has ended, what was written is the definition's output of what was read; it stops at the end of the input or by a failure
pub record Ran (r : Turn) : Type 0 where
  pub memory : Memory
  pub line : List ℕ
  pub memory' : Memory
  pub line' : List ℕ
  pub served : Served memory line r memory' line'
  pub answers : r.ended ≡ true → served.wrote ≡ output served.read
  pub ends : r.on ≡ false → r.failed ≡ None → r.ended ≡ true
