-- An input fed in any pieces, each with an output of its own: the bytes taken, and the bytes written, one after another.
use Rattle.std.specs.Prelude.{List, [], ◌++◌, ℕ, take}
use Rattle.reply.specs.Memory.{Memory}
use Rattle.input.specs.declared.Fed.{Fed}
use Rattle.input.specs.Fed.{Feeding}

pub data InPieces : Memory → List ℕ → ℕ → List ℕ → List ℕ → Memory → List ℕ → ℕ → Type 0 where
  done : {w : Memory} {line : List ℕ} {n : ℕ} → InPieces w line n [] [] w line n
  then : {w : Memory} {line : List ℕ} {w' : Memory} {line' : List ℕ} {w'' : Memory} {line'' input output o o' : List ℕ} {n n'' : ℕ} (piece : List ℕ) (r : Fed) → Feeding w line n piece o r w' line' o'
      → InPieces w' line' r.length input output w'' line'' n''
      → InPieces w line n (take r.taken piece ++ input) (take r.written o' ++ output) w'' line'' n''
