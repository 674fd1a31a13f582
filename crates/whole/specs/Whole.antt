-- The whole check: "yes exactly if" memory is well-formed, for some map.
use Rattle.std.specs.Prelude.{◌≡◌, Bool, true, false, List, ℕ}
use Rattle.map.specs.Cells.{Map}
use Rattle.picture.specs.Picture.{Wf}

pub record Whole (w : List ℕ) (r : Bool) : Type 0 where
  pub yes : r ≡ true → (m : Map) × Wf w m
  pub no : r ≡ false → (m : Map) → Wf w m → ⊥
