-- What the readers of groups need of a state.
use Rattle.std.specs.Prelude.{◌≡◌, List, ℕ, ◌<◌}
use Rattle.shapes.specs.Table.{table}
use Rattle.numbers.specs.declared.Caps.{Caps}
use Rattle.picture.specs.State.{State}
use Rattle.picture.specs.Ready.{Settled}

-- a mark of a settled state
pub record Around (caps : Caps) (rows : List (List (List ℕ))) (v : ℕ) (s : State) : Type 0 where
  pub settled : Settled caps s
  pub types : rows ≡ table
  pub mark : v < caps.marks
