-- What the second half of the whole check asks: no two cells the same, two solids at most on a face under edition 2, and the siblings, first
-- anchors and live counts as stored.
use Rattle.std.specs.Prelude.{◌≡◌, Bool, not, ◌&&◌, ◌||◌, List, ℕ, ◌+◌, ◌<◌, eqb, leb, get_or, length}
use Rattle.lists.specs.Lists.{any, same_set, select, every}
use Rattle.numbers.specs.Half.{half_of}
use Rattle.numbers.specs.Editions.{second_edition}
use Rattle.shapes.specs.Shapes.{shape, facet_count}
use Rattle.shapes.specs.Table.{table}
use Rattle.numbers.specs.declared.Caps.{Caps}
use Rattle.map.specs.Cells.{Map}
use Rattle.map.specs.Siblings.{siblings, sibling}
use Rattle.map.specs.Ways.{way_number, way}
use Rattle.map.specs.Stars.{holders, anchors}
use Rattle.picture.specs.State.{State, next, map_with}
use Rattle.picture.specs.Picture.{Pic}
use Rattle.picture.specs.Ready.{Ready, Settled}
use Rattle.store.specs.Fields.{Count}
use Rattle.store.specs.Slots.{InHead, read, code_in}
use Rattle.facet.specs.Facet.{marks_in}
use Rattle.record_checks.specs.Upright.{Upright}

-- what a step tells of any state whose picture memory is and that allows the step
pub record Sees (w : List ℕ) (caps : Caps) (ok : State → Type 0) (test : State → Bool) (r : Bool) : Type 0 where
  pub sees : (s : State) → Pic w caps s → ok s → r ≡ test s

-- the table of types and a state that is ready, or settled
pub record Readied (caps : Caps) (rows : List (List (List ℕ))) (s : State) : Type 0 where
  pub ready : Ready caps s
  pub types : rows ≡ table

pub record SettledBy (caps : Caps) (rows : List (List (List ℕ))) (s : State) : Type 0 where
  pub settled : Settled caps s
  pub types : rows ≡ table

-- another cell of the same type with the same set of marks: by the records, and by the map
unfoldable pub twin_in : List ℕ → Caps → ℕ → ℕ → Bool
twin_in w caps c k = not (eqb k c) && (eqb (code_in w caps k) (code_in w caps c) && same_set (marks_in w caps k) (marks_in w caps c))

unfoldable pub twin_of : Map → ℕ → ℕ → Bool
twin_of m c k = not (eqb k c) && (eqb (m.at k).code (m.at c).code && same_set (m.at k).marks (m.at c).marks)

-- the number has no cell, or none of the cells at its first mark is another of its kind
unfoldable pub lone_of : Map → ℕ → Bool
lone_of m c = eqb (m.at c).code 0 || not (any (twin_of m c) (holders m (get_or (m.at c).marks 0 0)))

-- so many may share a facet of a type: "a face may lie between two solids at most", under edition 2
unfoldable pub few_in : Caps → ℕ → ℕ → Bool
few_in caps t n = not (eqb caps.edition second_edition) || (not (eqb (shape t).dimension 3) || leb n 2)

-- the stored sibling of a half-facet is the sibling, and its way the way
unfoldable pub sib_right : Caps → State → ℕ → ℕ → Bool
sib_right caps s c f =
    eqb (s.sib (half_of c f)) (sibling (map_with caps s) (half_of c f))
    && eqb (way_number (s.way (half_of c f))) (way_number (way (map_with caps s) (half_of c f)))

-- as many as share a facet may, and what is stored of it is right
unfoldable pub facet_right : Caps → State → ℕ → ℕ → Bool
facet_right caps s c f = few_in caps (s.at c).code (length (siblings (map_with caps s) (half_of c f))) && sib_right caps s c f

-- so for each facet of a cell, as its record gives them
unfoldable pub facets_right : List ℕ → Caps → State → ℕ → Bool
facets_right w caps s c = every (facet_count (code_in w caps c)) (facet_right caps s c)

-- the stored first anchor in dimension d + 1 is the first anchor
unfoldable pub anc_right : Caps → State → ℕ → ℕ → Bool
anc_right caps s v d = eqb (s.anc (d + 1) v) (next (anchors (map_with caps s) (d + 1) v))

unfoldable pub ancs_right : Caps → State → ℕ → Bool
ancs_right caps s v = every 3 (anc_right caps s v)

-- the cells of a type, counted by the records
unfoldable pub count_in : List ℕ → Caps → ℕ → ℕ
count_in w caps t = length (select (λ c. eqb (code_in w caps c) t) caps.cells)

-- the stored count of type t + 1 is that
unfoldable pub count_right : List ℕ → Caps → ℕ → Bool
count_right w caps t = eqb (read w caps (InHead (Count (t + 1)))) (count_in w caps (t + 1))
