-- The first n words are 0, the others as they were.
use Rattle.std.specs.Prelude.{◌≡◌, List, ℕ, ◌<◌, ◌≤◌, get_or, length}

pub record Cleared (n : ℕ) (w w' : List ℕ) : Type 0 where
  pub size : length w' ≡ length w
  pub zero : (i : ℕ) → i < n → get_or w' i 0 ≡ 0
  pub same : (i : ℕ) → n ≤ i → get_or w' i 0 ≡ get_or w i 0
