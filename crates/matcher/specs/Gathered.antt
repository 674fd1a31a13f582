-- The licences of the cells around a mark, gathered dimension by dimension, on well-formed memory.
use Rattle.std.specs.Prelude.{◌≡◌, true, List, ◌++◌, map, ℕ, ◌+◌, ◌<◌, ◌≤◌, get_or, length}
use Rattle.lists.specs.Lists.{list_of}
use Rattle.lists.specs.Filled.{Copied}
use Rattle.numbers.specs.Sizes.{most_around}
use Rattle.map.specs.Cells.{Map, live}
use Rattle.map.specs.Stars.{star}
use Rattle.picture.specs.Picture.{Wf}

abbrev pub licence_in : Map → ℕ → ℕ
licence_in m c = (m.at c).licence

-- of one cell
pub record LicenceAt (w : List ℕ) (c r : ℕ) : Type 0 where
  pub tells : (m : Map) → Wf w m → live m c ≡ true → r ≡ licence_in m c

-- of the first n cells of a list, from place k on
pub record Added (w cells : List ℕ) (k : ℕ) (o : List ℕ) (n : ℕ) (o' : List ℕ) : Type 0 where
  pub size : length o' ≡ length o
  pub more : (m : Map) → Wf w m → ((i : ℕ) → i < n → live m (get_or cells i 0) ≡ true) → (l zeros : List ℕ) → Copied l zeros k o
      → Copied (l ++ list_of n (λ i. licence_in m (get_or cells i 0))) zeros (k + n) o'

-- of a star, from place k on
pub record AddedStar (w : List ℕ) (d v k : ℕ) (o : List ℕ) (r : ℕ) (o' : List ℕ) : Type 0 where
  pub few : r ≤ most_around
  pub more : (m : Map) → Wf w m → 1 ≤ d → d ≤ 3 → v < m.caps.marks → (l zeros : List ℕ) → Copied l zeros k o
      → Copied (l ++ map (licence_in m) (star m d v)) zeros (k + r) o'

-- the three stars of a mark
unfoldable pub gathered : Map → ℕ → List ℕ
gathered m v = (map (licence_in m) (star m 1 v) ++ map (licence_in m) (star m 2 v)) ++ map (licence_in m) (star m 3 v)

pub record Gathered (w : List ℕ) (v : ℕ) (o : List ℕ) (r : ℕ) (o' : List ℕ) : Type 0 where
  pub few : r ≤ 384
  pub list : (m : Map) → Wf w m → v < m.caps.marks → Copied (gathered m v) o r o'
