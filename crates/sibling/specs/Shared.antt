-- The half-facets with one set of marks, found along the chain of one of its marks; and their siblings mended.
use Rattle.std.specs.Prelude.{◌≡◌, cond, List, ℕ, ◌<◌, ◌≤◌, get_or, length}
use Rattle.lists.specs.Lists.{has, after}
use Rattle.lists.specs.Filled.{Copied}
use Rattle.shapes.specs.Table.{table}
use Rattle.numbers.specs.declared.Caps.{Caps}
use Rattle.map.specs.Siblings.{sharers}
use Rattle.map.specs.Ways.{way}
use Rattle.picture.specs.State.{State, map_with}
use Rattle.picture.specs.Picture.{Pic}
use Rattle.picture.specs.Ready.{Ready}
use Rattle.numbers.specs.Sizes.{most_around}

-- the table is the table of types, and the set has a first mark of the mesh
pub record SetInside (caps : Caps) (rows : List (List (List ℕ))) (set : List ℕ) : Type 0 where
  pub types : rows ≡ table
  pub some : 0 < length set
  pub mark : get_or set 0 0 < caps.marks

-- what `sharers` leaves
pub record Shared (w : List ℕ) (caps : Caps) (rows : List (List (List ℕ))) (set o : List ℕ) (r : ℕ) (o' : List ℕ) : Type 0 where
  pub few : r ≤ most_around
  pub size : length o' ≡ length o
  pub list : (s : State) → Pic w caps s → Ready caps s → SetInside caps rows set → Copied (sharers (map_with caps s) set) o r o'

-- the siblings of a set: each of its half-facets leads to the next, and says which way that runs
unfoldable pub mended : Caps → List ℕ → State → State
mended caps set s = record {
  at = s.at;
  chain = s.chain;
  sib = λ h. cond (has h (sharers (map_with caps s) set)) (after h (sharers (map_with caps s) set)) (s.sib h);
  way = λ h. cond (has h (sharers (map_with caps s) set)) (way (map_with caps s) h) (s.way h);
  anc = s.anc;
  count = s.count;
}

pub record MayMend (caps : Caps) (rows : List (List (List ℕ))) (set : List ℕ) (s : State) : Type 0 where
  pub ready : Ready caps s
  pub asked : SetInside caps rows set
