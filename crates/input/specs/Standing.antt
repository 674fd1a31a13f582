-- What the lent memory stands for between two pieces of the input: a journal, and the line read so far.
use Rattle.std.specs.Prelude.{◌≡◌, List, ◌++◌, ℕ, ◌≤◌, length, take}
use Rattle.frames.specs.Frames.{Journal, output_from}
use Rattle.reply.specs.Memory.{Memory, Keeps}

-- "more than 64 digits" is a bad frame whatever they are, so the first 65 bytes of the line are kept: they stand in the first n places
pub record Lined (line : List ℕ) (n : ℕ) (l : List ℕ) : Type 0 where
  pub fits : 65 ≤ length line
  pub count : n ≡ length (take 65 l)
  pub bytes : take n line ≡ take 65 l

-- the memory w is that of the journal g, and line and n tell of the line l
pub record Standing (w : Memory) (line : List ℕ) (n : ℕ) (g : Journal) (l : List ℕ) : Type 0 where
  pub memory : Keeps w g
  pub lined : Lined line n l

-- from a journal and a line, the bytes of input gave the output text, and w, line and n stand for what any rest of the input goes on from
pub record Reached (g : Journal) (l input text : List ℕ) (w : Memory) (line : List ℕ) (n : ℕ) : Type 0 where
  pub journal : Journal
  pub sofar : List ℕ
  pub stands : Standing w line n journal sofar
  pub output : (rest : List ℕ) → output_from g l (input ++ rest) ≡ text ++ output_from journal sofar rest
