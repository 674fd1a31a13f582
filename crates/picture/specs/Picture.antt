-- The picture: what each field of the room holds, by the capacities and the state.
use Rattle.std.specs.Prelude.{◌≡◌, true, cond, ◌&&◌, List, ℕ, zero, suc, ◌+◌, ◌*◌, ◌≤◌, leb, ltb, get_or, length}
use Rattle.lists.specs.Lists.{select, keep, place}
use Rattle.numbers.specs.declared.Caps.{Caps}
use Rattle.numbers.specs.Sizes.{most_capacity}
use Rattle.numbers.specs.Editions.{is_edition}
use Rattle.store.specs.Layout.{near_marks, magic, room}
use Rattle.store.specs.Fields.{HeadField, Magic, MarkCap, CellCap, Edition, Count, HeadRest, MarkField, First, Held, Anchor, MarkRest, CellField, Code, Licence, Near, Sib, Link, Far, CellRest}
use Rattle.store.specs.Slots.{Slot, InHead, InMark, InCell, Within, read}
use Rattle.map.specs.Cells.{Body, Map}
use Rattle.map.specs.Ways.{way_number}
use Rattle.map.specs.Sound.{Sound, TwoSolids}
use Rattle.picture.specs.State.{State, next, state_of}

-- the chain of a mark: its cells, ascending
unfoldable pub chain_of : Caps → State → ℕ → List ℕ
chain_of caps s v = select (s.chain v) caps.cells

-- the first cell of the chain from lo on, as number + 1; 0 for none
unfoldable pub ahead : Caps → State → ℕ → ℕ → ℕ
ahead caps s v lo = next (keep (leb lo) (chain_of caps s v))

-- a link to a cell says the corner too: 8 × cell + corner + 1; 0 for none
unfoldable pub link_to : (ℕ → Body) → ℕ → ℕ → ℕ
link_to at v zero = 0
link_to at v (suc c) = suc (8 * c + place v (at c).marks)

-- the link to the first cell of the chain from lo on
unfoldable pub link : Caps → State → ℕ → ℕ → ℕ
link caps s v lo = link_to s.at v (ahead caps s v lo)

-- the mark at a corner, and the link of that mark's chain behind this cell
unfoldable pub corner : State → ℕ → ℕ → ℕ
corner s c k = get_or (s.at c).marks k 0

unfoldable pub link_word : Caps → State → ℕ → ℕ → ℕ
link_word caps s c k =
    cond (ltb k (length (s.at c).marks) && s.chain (corner s c k) c) (link caps s (corner s c k) (suc c)) 0

unfoldable pub head_word : Caps → (ℕ → ℕ) → HeadField → ℕ
head_word caps count Magic = magic
head_word caps count MarkCap = caps.marks
head_word caps count CellCap = caps.cells
head_word caps count Edition = caps.edition
head_word caps count (Count t) = count t
head_word caps count (HeadRest k) = 0

unfoldable pub mark_word : Caps → State → ℕ → MarkField → ℕ
mark_word caps s v First = link caps s v 0
mark_word caps s v Held = length (chain_of caps s v)
mark_word caps s v (Anchor d) = s.anc d v
mark_word caps s v (MarkRest k) = 0

-- the word of a half-facet: 4 × its sibling + the number of the way that it runs
abbrev pub sib_word : State → ℕ → ℕ
sib_word s h = 4 * s.sib h + way_number (s.way h)

-- all marks stand in the second part where there are more than four
unfoldable pub cell_word : Caps → State → ℕ → CellField → ℕ
cell_word caps s c Code = (s.at c).code
cell_word caps s c Licence = (s.at c).licence
cell_word caps s c (Near k) = corner s c k
cell_word caps s c (Sib f) = sib_word s (8 * c + f)
cell_word caps s c (Link k) = link_word caps s c k
cell_word caps s c (Far k) = cond (ltb near_marks (length (s.at c).marks)) (corner s c k) 0
cell_word caps s c (CellRest p) = 0

unfoldable pub word_of : Caps → State → Slot → ℕ
word_of caps s (InHead f) = head_word caps s.count f
word_of caps s (InMark v f) = mark_word caps s v f
word_of caps s (InCell c f) = cell_word caps s c f

-- the words are the picture of the state
pub record Pic (w : List ℕ) (caps : Caps) (s : State) : Type 0 where
  pub marks : caps.marks ≤ most_capacity
  pub cells : caps.cells ≤ most_capacity
  pub edition : is_edition caps.edition ≡ true
  pub fits : room caps.marks caps.cells ≤ length w
  pub words : (x : Slot) → Within caps.marks caps.cells x → read w caps x ≡ word_of caps s x

-- well-formed: the picture of a sound map
pub record Wf (w : List ℕ) (m : Map) : Type 0 where
  pub sound : Sound m
  pub two : TwoSolids m
  pub picture : Pic w m.caps (state_of m)
