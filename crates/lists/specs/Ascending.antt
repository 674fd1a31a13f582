-- Ascending, and so each once.
use Rattle.std.specs.Prelude.{List, ℕ, ◌<◌, length, get_or}

abbrev pub Ascending : List ℕ → Type 0
Ascending l = (i j : ℕ) → i < j → j < length l → get_or l i 0 < get_or l j 0
