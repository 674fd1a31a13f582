-- The siblings of a cell's sets mended.
use Rattle.std.specs.Prelude.{List, ℕ, ◌<◌}
use Rattle.words.specs.Words.{Only}
use Rattle.numbers.specs.declared.Caps.{Caps}
use Rattle.store.specs.Layout.{room}
use Rattle.picture.specs.State.{State}
use Rattle.picture.specs.Picture.{Pic}
use Rattle.mend.specs.Settle.{MaySettle}
use Rattle.mend.specs.Sibs.{Sibs}

-- on any memory nothing beyond the room changes; on the picture of a state that may settle, all siblings are right but for the sets that are
-- left
pub record Mends (caps : Caps) (rows : List (List (List ℕ))) (t : ℕ) (marks w w' : List ℕ) (left : List (List ℕ)) : Type 0 where
  pub inside : Only (λ i. i < room caps.marks caps.cells) w w'
  pub state : (s : State) → Pic w caps s → MaySettle caps rows t marks s → (s' : State) × Pic w' caps s' × Sibs caps s s' left
