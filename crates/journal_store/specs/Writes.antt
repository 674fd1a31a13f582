-- What the writers of words promise, on any memory.
use Rattle.std.specs.Prelude.{◌≡◌, cond, List, ℕ, ◌+◌, ◌*◌, ◌<◌, ◌≤◌, ltb, get_or, length}
use Rattle.words.specs.Words.{Only}
use Rattle.journal_store.specs.Entries.{head_words, entry_words}

-- the places from `at` on, n of them
abbrev pub From : ℕ → ℕ → ℕ → Type 0
From at n i = (at ≤ i) × (i < at + n)

-- the first n words of a list, 0 past its end, stand from `at` on
pub record Copied (l : List ℕ) (at n : ℕ) (w w' : List ℕ) : Type 0 where
  pub only : Only (From at n) w w'
  pub words : (i : ℕ) → i < n → at + i < length w → get_or w' (at + i) 0 ≡ get_or l i 0

-- of n entries the first k are gone, the others stand in their places, and behind them 0
pub record Moved (n k : ℕ) (w w' : List ℕ) : Type 0 where
  pub only : Only (From head_words (entry_words * n)) w w'
  pub words : head_words + entry_words * n ≤ length w → (i : ℕ) → i < entry_words * n
      → get_or w' (head_words + i) 0 ≡ cond (ltb (i + entry_words * k) (entry_words * n)) (get_or w (head_words + i + entry_words * k) 0) 0
