-- The first anchor without the groups.
use Rattle.std.specs.Prelude.{◌≡◌, Bool, true, not, ◌||◌, List, ℕ, ◌+◌, ◌*◌, ◌/◌, ◌%◌, ◌<◌}
use Rattle.lists.specs.Lists.{has, any, keep}
use Rattle.numbers.specs.Half.{cut, half_of}
use Rattle.numbers.specs.declared.Caps.{Caps}
use Rattle.map.specs.Cells.{Map}
use Rattle.map.specs.Siblings.{border}
use Rattle.map.specs.Stars.{star, group, halves_at}
use Rattle.picture.specs.State.{State, map_with, next}
use Rattle.picture.specs.Picture.{Pic}
use Rattle.picture.specs.Ready.{Settled}
use Rattle.shapes.specs.Sizes.{most_facets}
use Rattle.border.specs.declared.Ends.{Ends}
use Rattle.border.specs.Corners.{bit_at}

-- the half-facets of a star that hold the mark, and the borders among them
abbrev pub star_halves : Map → ℕ → ℕ → List ℕ
star_halves m d v = halves_at m v (star m d v)

abbrev pub star_borders : Map → ℕ → ℕ → List ℕ
star_borders m d v = keep (border m) (star_halves m d v)

-- the group of a cell has a border that holds the mark
unfoldable pub bordered : Map → ℕ → ℕ → ℕ → Bool
bordered m d v c = any (border m) (halves_at m v (group m d v c))

-- a half-facet is a border, or its group has none
unfoldable pub leads : Map → ℕ → ℕ → ℕ → Bool
leads m d v h = border m h || not (bordered m d v (h / 8))

-- a mark of a settled state
pub record Beside (caps : Caps) (v : ℕ) (s : State) : Type 0 where
  pub settled : Settled caps s
  pub mark : v < caps.marks

-- the first half-facet of a star at the mark and the first border at it, each as number + 1
pub record Ended (w : List ℕ) (caps : Caps) (d v : ℕ) (r : Ends) : Type 0 where
  pub ends : (s : State) → Pic w caps s → Beside caps v s
      → (r.any ≡ next (star_halves (map_with caps s) d v)) × (r.border ≡ next (star_borders (map_with caps s) d v))

-- a half-facet of the same cells that holds the mark too
pub record Stays (w : List ℕ) (caps : Caps) (v h r : ℕ) : Type 0 where
  pub stays : (s : State) → Pic w caps s → Beside caps v s → (g : List ℕ)
      → has h (halves_at (map_with caps s) v g) ≡ true → has r (halves_at (map_with caps s) v g) ≡ true

-- each cell of a star before one has a border in its group
abbrev pub BorderedBefore : Caps → State → ℕ → ℕ → ℕ → Type 0
BorderedBefore caps s d v c = (b : ℕ) → has b (star (map_with caps s) d v) ≡ true → b < c → bordered (map_with caps s) d v b ≡ true

-- yes only where a half-facet's group has a border that holds the mark, if that of each cell before its own has
pub record Out (w : List ℕ) (caps : Caps) (v h : ℕ) (r : Bool) : Type 0 where
  pub out : r ≡ true → (s : State) → Pic w caps s → Beside caps v s → (d c : ℕ)
      → has h (halves_at (map_with caps s) v (group (map_with caps s) d v c)) ≡ true → BorderedBefore caps s d v (h / 8) → bordered (map_with caps s) d v c ≡ true

-- so of facet f of a cell, whose digit is the last of left
pub record FacetOut (w : List ℕ) (caps : Caps) (v c f left : ℕ) (r : Bool) : Type 0 where
  pub digit : r ≡ true → bit_at left 0 ≡ true
  pub facet : Out w caps v (half_of (cut c) (f % 8)) r

-- the digits are the half-facets of the star in a cell
pub record Digits (caps : Caps) (s : State) (d v c bits : ℕ) : Type 0 where
  pub half : (f : ℕ) → f < most_facets → bit_at bits f ≡ true → has (8 * c + f) (star_halves (map_with caps s) d v) ≡ true
  pub digit : (h : ℕ) → has h (star_halves (map_with caps s) d v) ≡ true → h / 8 ≡ c → (bit_at bits (h % 8) ≡ true) × (h % 8 < most_facets)

-- so for a cell of a star, by its digits
pub record CellOut (w : List ℕ) (caps : Caps) (v c bits : ℕ) (r : Bool) : Type 0 where
  pub out : r ≡ true → (s : State) → Pic w caps s → Beside caps v s → (d : ℕ) → Digits caps s d v c bits → has c (star (map_with caps s) d v) ≡ true
      → BorderedBefore caps s d v c → bordered (map_with caps s) d v c ≡ true

-- and for each cell of the star before one
pub record AllOut (w : List ℕ) (caps : Caps) (d v b : ℕ) (r : Bool) : Type 0 where
  pub out : r ≡ true → (s : State) → Pic w caps s → Beside caps v s → (c : ℕ) → has c (star (map_with caps s) d v) ≡ true → c < b
      → bordered (map_with caps s) d v c ≡ true
