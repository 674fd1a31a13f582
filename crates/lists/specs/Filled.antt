-- A list written to the first places of an output, all else as it was.
use Rattle.std.specs.Prelude.{◌≡◌, List, ◌++◌, ℕ, ◌≤◌, length, drop}

pub record Filled (l o o' : List ℕ) : Type 0 where
  pub size : length o' ≡ length o
  pub wrote : length l ≤ length o → o' ≡ l ++ drop (length l) o

-- and its length counted
pub record Copied (l o : List ℕ) (r : ℕ) (o' : List ℕ) : Type 0 where
  pub count : r ≡ length l
  pub filled : Filled l o o'
