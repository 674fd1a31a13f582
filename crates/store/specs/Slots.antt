-- A word of the room by its record and its field; what is read there, and what is written.
use Rattle.std.specs.Prelude.{Bool, true, false, cond, ◌&&◌, List, ℕ, ◌+◌, ◌*◌, ◌/◌, ◌%◌, ◌<◌, leb, ltb, get_or, set}
use Rattle.numbers.specs.declared.Caps.{Caps}
use Rattle.map.specs.declared.Way.{Way}
use Rattle.map.specs.Ways.{way_number, way_at}
use Rattle.store.specs.Layout.{near_marks, past_halves, mark_at, near_at, far_at}
use Rattle.store.specs.Fields.{HeadField, Magic, MarkCap, CellCap, Edition, Count, HeadRest, MarkField, First, Held, Anchor, MarkRest, CellField, Code, Licence, Near, Sib, Link, Far, CellRest, Place, InNear, InFar, head_place, mark_place, cell_place, HeadFits, MarkFits, CellFits}
use Rattle.shapes.specs.Sizes.{most_code, most_facets, most_marks}

pub data Slot : Type 0 where
  InHead : HeadField → Slot
  InMark : ℕ → MarkField → Slot
  InCell : ℕ → CellField → Slot

unfoldable pub place_at : ℕ → ℕ → ℕ → Place → ℕ
place_at marks cells c (InNear k) = near_at marks c + k
place_at marks cells c (InFar k) = far_at marks cells c + k

unfoldable pub address : ℕ → ℕ → Slot → ℕ
address marks cells (InHead f) = head_place f
address marks cells (InMark v f) = mark_at v + mark_place f
address marks cells (InCell c f) = place_at marks cells c (cell_place f)

-- the slots that there are
abbrev pub Within : ℕ → ℕ → Slot → Type 0
Within marks cells (InHead f) = HeadFits f
Within marks cells (InMark v f) = (v < marks) × MarkFits f
Within marks cells (InCell c f) = (c < cells) × CellFits f

-- the word of a slot
unfoldable pub read : List ℕ → Caps → Slot → ℕ
read w caps x = get_or w (address caps.marks caps.cells x) 0

-- the slots that are written one by one: the capacities and the words that say nothing are written by a format alone
unfoldable pub head_open : HeadField → Bool
head_open Magic = false
head_open MarkCap = false
head_open CellCap = false
head_open Edition = false
head_open (Count t) = leb 1 t && leb t most_code
head_open (HeadRest k) = false

unfoldable pub mark_open : MarkField → Bool
mark_open First = true
mark_open Held = true
mark_open (Anchor d) = leb 1 d && leb d 3
mark_open (MarkRest k) = false

unfoldable pub cell_open : CellField → Bool
cell_open Code = true
cell_open Licence = true
cell_open (Near k) = ltb k near_marks
cell_open (Sib f) = ltb f most_facets
cell_open (Link k) = ltb k most_marks
cell_open (Far k) = ltb k most_marks
cell_open (CellRest p) = false

unfoldable pub writable : Caps → Slot → Bool
writable caps (InHead f) = head_open f
writable caps (InMark v f) = ltb v caps.marks && mark_open f
writable caps (InCell c f) = ltb c caps.cells && cell_open f

-- a word written; nothing where there is no such slot
unfoldable pub written : List ℕ → Caps → Slot → ℕ → List ℕ
written w caps x y = cond (writable caps x) (set w (address caps.marks caps.cells x) y) w

-- the type of a cell
abbrev pub code_in : List ℕ → Caps → ℕ → ℕ
code_in w caps c = read w caps (InCell c Code)

-- the licence of a cell
abbrev pub licence_in : List ℕ → Caps → ℕ → ℕ
licence_in w caps c = read w caps (InCell c Licence)

-- the mark at a corner of a cell
unfoldable pub corner_in : List ℕ → Caps → ℕ → ℕ → ℕ
corner_in w caps c k = cond (ltb k near_marks) (read w caps (InCell c (Near k))) (read w caps (InCell c (Far k)))

-- where the first n marks of a cell stand side by side
unfoldable pub marks_at : Caps → ℕ → ℕ → ℕ
marks_at caps c n = cond (leb n near_marks) (address caps.marks caps.cells (InCell c (Near 0))) (address caps.marks caps.cells (InCell c (Far 0)))

-- the word of a half-facet: 4 × its sibling + the number of the way that it runs
abbrev pub packed : ℕ → Way → ℕ
packed x way = 4 * (x % past_halves) + way_number way

-- the sibling of a half-facet, and the way that it runs
abbrev pub sibling_in : List ℕ → Caps → ℕ → ℕ
sibling_in w caps h = read w caps (InCell (h / 8) (Sib (h % 8))) / 4

abbrev pub way_in : List ℕ → Caps → ℕ → Way
way_in w caps h = way_at (read w caps (InCell (h / 8) (Sib (h % 8))) % 4)
