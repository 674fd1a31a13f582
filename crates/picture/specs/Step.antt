-- What a writing step promises: on any memory nothing beyond the room changes; on the picture of a state that allows the step, what is
-- left is the picture of the changed state.
use Rattle.std.specs.Prelude.{List, ℕ, ◌<◌}
use Rattle.words.specs.Words.{Only}
use Rattle.numbers.specs.declared.Caps.{Caps}
use Rattle.store.specs.Layout.{room}
use Rattle.picture.specs.State.{State}
use Rattle.picture.specs.Picture.{Pic}

pub record Step (caps : Caps) (w w' : List ℕ) (ok : State → Type 0) (f : State → State) : Type 0 where
  pub inside : Only (λ i. i < room caps.marks caps.cells) w w'
  pub state : (s : State) → Pic w caps s → ok s → Pic w' caps (f s)
