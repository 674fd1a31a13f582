-- What the readers of stars leave: on the picture of a ready state, the list of the definitions in the first places of the output.
use Rattle.std.specs.Prelude.{◌≡◌, List, ℕ, ◌<◌, ◌≤◌, length}
use Rattle.lists.specs.Filled.{Copied}
use Rattle.numbers.specs.declared.Caps.{Caps}
use Rattle.map.specs.Cells.{Map}
use Rattle.picture.specs.State.{State, map_with}
use Rattle.picture.specs.Picture.{Pic}
use Rattle.picture.specs.Ready.{Ready}

-- a list of at most `most` numbers, by the map of any state that allows it
pub record Gives (w : List ℕ) (caps : Caps) (most : ℕ) (ok : State → Type 0) (list : Map → List ℕ) (o : List ℕ) (r : ℕ) (o' : List ℕ) : Type 0 where
  pub few : r ≤ most
  pub size : length o' ≡ length o
  pub gives : (s : State) → Pic w caps s → ok s → Copied (list (map_with caps s)) o r o'

-- a mark of a ready state
pub record AtMark (caps : Caps) (v : ℕ) (s : State) : Type 0 where
  pub ready : Ready caps s
  pub mark : v < caps.marks

-- a word, by the map of any state that allows it
pub record Reads (w : List ℕ) (caps : Caps) (ok : State → Type 0) (value : Map → ℕ) (r : ℕ) : Type 0 where
  pub reads : (s : State) → Pic w caps s → ok s → r ≡ value (map_with caps s)
