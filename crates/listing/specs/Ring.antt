-- A list of n numbers as a ring: the place j behind place i, and the place of a number.
use Rattle.std.specs.Prelude.{◌≡◌, cond, List, ℕ, ◌+◌, ◌-◌, ◌<◌, ltb, get_or}

unfoldable pub ring : ℕ → ℕ → ℕ → ℕ
ring n i j = cond (ltb (i + j) n) (i + j) (i + j - n)

-- a number that is one of the first n stands at the place that is told
pub record Placed (l : List ℕ) (n h r : ℕ) : Type 0 where
  pub found : (j : ℕ) → j < n → get_or l j 0 ≡ h → (r < n) × (get_or l r 0 ≡ h)
