-- What each word of the head, of a mark's record and of a cell's record is, by name: the one place where a word has a number.
use Rattle.std.specs.Prelude.{◌≡◌, cond, List, [], ◌∷◌, ℕ, ◌+◌, ◌<◌, ◌≤◌, ltb, get_or}
use Rattle.shapes.specs.Sizes.{most_code, most_facets, most_marks}
use Rattle.store.specs.Layout.{head_words, mark_words, part_words, near_marks}

-- a word of the head: what says that this is a mesh, the capacities, the edition, the live cells of a type; a word that says nothing
pub data HeadField : Type 0 where
  Magic : HeadField
  MarkCap : HeadField
  CellCap : HeadField
  Edition : HeadField
  Count : ℕ → HeadField
  HeadRest : ℕ → HeadField

unfoldable pub head_place : HeadField → ℕ
head_place Magic = 0
head_place MarkCap = 1
head_place CellCap = 2
head_place Edition = 3
head_place (Count t) = 4 + t
head_place (HeadRest k) = k

unfoldable pub head_fields : List HeadField
head_fields =
    Magic ∷ MarkCap ∷ CellCap ∷ Edition
    ∷ HeadRest 4 ∷ Count 1 ∷ Count 2 ∷ Count 3
    ∷ Count 4 ∷ Count 5 ∷ Count 6 ∷ Count 7
    ∷ HeadRest 12 ∷ HeadRest 13 ∷ HeadRest 14 ∷ HeadRest 15
    ∷ []

unfoldable pub head_field : ℕ → HeadField
head_field k = get_or head_fields k Magic

-- a word of a mark's record: the link to its first cell, how many cells hold it, its first anchor in a dimension
pub data MarkField : Type 0 where
  First : MarkField
  Held : MarkField
  Anchor : ℕ → MarkField
  MarkRest : ℕ → MarkField

unfoldable pub mark_place : MarkField → ℕ
mark_place First = 0
mark_place Held = 1
mark_place (Anchor d) = 1 + d
mark_place (MarkRest k) = k

unfoldable pub mark_fields : List MarkField
mark_fields = First ∷ Held ∷ Anchor 1 ∷ Anchor 2 ∷ Anchor 3 ∷ MarkRest 5 ∷ MarkRest 6 ∷ MarkRest 7 ∷ []

unfoldable pub mark_field : ℕ → MarkField
mark_field k = get_or mark_fields k First

-- a place in a cell's record: in its first part or in its second
pub data Place : Type 0 where
  InNear : ℕ → Place
  InFar : ℕ → Place

-- a word of a cell's record: the type, its first four marks, the sibling of each facet, the link at each corner, the licence, all marks of a
-- cell with more than four
pub data CellField : Type 0 where
  Code : CellField
  Licence : CellField
  Near : ℕ → CellField
  Sib : ℕ → CellField
  Link : ℕ → CellField
  Far : ℕ → CellField
  CellRest : Place → CellField

unfoldable pub cell_place : CellField → Place
cell_place Code = InNear 0
cell_place Licence = InNear 15
cell_place (Near k) = InNear (1 + k)
cell_place (Sib f) = InNear (5 + f)
cell_place (Link k) = cond (ltb k near_marks) (InNear (11 + k)) (InFar (4 + k))
cell_place (Far k) = InFar k
cell_place (CellRest p) = p

unfoldable pub near_fields : List CellField
near_fields =
    Code ∷ Near 0 ∷ Near 1 ∷ Near 2
    ∷ Near 3 ∷ Sib 0 ∷ Sib 1 ∷ Sib 2
    ∷ Sib 3 ∷ Sib 4 ∷ Sib 5 ∷ Link 0
    ∷ Link 1 ∷ Link 2 ∷ Link 3 ∷ Licence
    ∷ []

unfoldable pub far_fields : List CellField
far_fields =
    Far 0 ∷ Far 1 ∷ Far 2 ∷ Far 3
    ∷ Far 4 ∷ Far 5 ∷ Far 6 ∷ Far 7
    ∷ Link 4 ∷ Link 5 ∷ Link 6 ∷ Link 7
    ∷ CellRest (InFar 12) ∷ CellRest (InFar 13) ∷ CellRest (InFar 14) ∷ CellRest (InFar 15)
    ∷ []

unfoldable pub cell_field : Place → CellField
cell_field (InNear k) = get_or near_fields k Code
cell_field (InFar k) = get_or far_fields k Code

-- the fields that there are
abbrev pub HeadFits : HeadField → Type 0
HeadFits Magic = 0 < head_words
HeadFits MarkCap = 0 < head_words
HeadFits CellCap = 0 < head_words
HeadFits Edition = 0 < head_words
HeadFits (Count t) = (1 ≤ t) × (t ≤ most_code)
HeadFits (HeadRest k) = (k < head_words) × (head_field k ≡ HeadRest k)

abbrev pub MarkFits : MarkField → Type 0
MarkFits First = 0 < mark_words
MarkFits Held = 0 < mark_words
MarkFits (Anchor d) = (1 ≤ d) × (d ≤ 3)
MarkFits (MarkRest k) = (k < mark_words) × (mark_field k ≡ MarkRest k)

abbrev pub PlaceFits : Place → Type 0
PlaceFits (InNear k) = k < part_words
PlaceFits (InFar k) = k < part_words

abbrev pub CellFits : CellField → Type 0
CellFits Code = 0 < part_words
CellFits Licence = 0 < part_words
CellFits (Near k) = k < near_marks
CellFits (Sib f) = f < most_facets
CellFits (Link k) = k < most_marks
CellFits (Far k) = k < most_marks
CellFits (CellRest p) = PlaceFits p × (cell_field p ≡ CellRest p)
