-- What each call answers: the refusal number, 0 for accepted, and the values. Checks stand in the listed order.
use Rattle.std.specs.Prelude.{Bool, cond, not, ◌&&◌, ◌||◌, List, [], ◌∷◌, ◌++◌, ℕ, ◌/◌, ◌%◌, eqb, leb, ltb, length, take}
use Rattle.lists.specs.Lists.{any, repeats, same_set}
use Rattle.numbers.specs.Half.{half_of}
use Rattle.numbers.specs.Room.{room}
use Rattle.numbers.specs.declared.Caps.{Caps}
use Rattle.shapes.specs.Shapes.{shape, facet_count}
use Rattle.map.specs.Cells.{Body, Map, live, sets_of, cells_of, neighbours}
use Rattle.map.specs.Siblings.{sharers, sibling, cycle, border}
use Rattle.map.specs.Ways.{way_number, way}
use Rattle.map.specs.Stars.{holders, star, anchors}
use Rattle.numbers.specs.Sizes.{most_around, most_capacity}
use Rattle.numbers.specs.Editions.{second_edition, is_edition}
use Rattle.shapes.specs.Sizes.{most_corners}

pub record Answer : Type 0 where
  pub refusal : ℕ
  pub values : List ℕ

-- a check: the number that is given when it fails
pub record Check : Type 0 where
  pub number : ℕ
  pub fails : Bool

infix 20 ◌when◌
unfoldable pub ◌when◌ : ℕ → Bool → Check
n when fails = record { number = n; fails = fails }

-- the first check that fails is the answer
unfoldable pub answer : List Check → List ℕ → Answer
answer [] values = record { refusal = 0; values = values }
answer (c ∷ cs) values = cond c.fails (record { refusal = c.number; values = [] }) (answer cs values)

-- a listed answer gives the count; "12: output buffer shorter than the list"
unfoldable pub list_answer : List Check → List ℕ → ℕ → Answer
list_answer checks l places = answer (checks ++ ((12 when ltb places (length l)) ∷ [])) (length l ∷ [])

-- "6 for another edition, before 1 and like it"; "Format: 1, 2."
unfoldable pub format_checks : ℕ → Caps → List Check
format_checks words caps =
    (6 when not (is_edition caps.edition))
    ∷ (1 when ltb most_capacity caps.marks || ltb most_capacity caps.cells)
    ∷ (2 when ltb words (room caps.marks caps.cells))
    ∷ []

-- "Under edition 2, an insert that would put a third solid on a face is refused.": one of its faces has two already
unfoldable pub third : Map → Body → Bool
third m x =
    eqb m.caps.edition second_edition
    && (eqb (shape x.code).dimension 3 && any (λ (face : List ℕ). leb 2 (length (sharers m face))) (sets_of x.code x.marks))

-- "Insert: 3, 4, 6, 7, 8, 9, 10, 11."; "19 for the third solid, after 10 and before 11"
unfoldable pub insert_checks : Map → ℕ → Body → List Check
insert_checks m c x =
    (3 when leb m.caps.cells c)
    ∷ (4 when live m c)
    ∷ (6 when eqb (shape x.code).dimension 0)
    ∷ (7 when not (eqb (length x.marks) (shape x.code).marks))
    ∷ (8 when any (leb m.caps.marks) x.marks)
    ∷ (9 when repeats x.marks)
    ∷ (10 when any (λ k. same_set (m.at k).marks x.marks) (cells_of m x.code))
    ∷ (19 when third m x)
    ∷ (11 when any (λ v. leb most_around (length (holders m v))) x.marks)
    ∷ []

-- "Remove: 3, 5.", and so every query of a cell
unfoldable pub cell_checks : Map → ℕ → List Check
cell_checks m c = (3 when leb m.caps.cells c) ∷ (5 when not (live m c)) ∷ []

-- of a half-facet: 3, 5, 13
unfoldable pub half_checks : Map → ℕ → ℕ → List Check
half_checks m c f = cell_checks m c ++ ((13 when leb (facet_count (m.at c).code) f) ∷ [])

-- of a mark and a dimension: 6, 8
unfoldable pub star_checks : Map → ℕ → ℕ → List Check
star_checks m d v = (6 when ltb d 1 || ltb 3 d) ∷ (8 when leb m.caps.marks v) ∷ []

-- of a set of marks: 7, 8, 9; "Lookup takes sets of up to 4 marks.": as many as a facet has
unfoldable pub set_checks : Map → List ℕ → List Check
set_checks m set =
    (7 when ltb (length set) 1 || ltb most_corners (length set)) ∷ (8 when any (leb m.caps.marks) set) ∷ (9 when repeats set) ∷ []

-- of a type: 6
unfoldable pub type_checks : ℕ → List Check
type_checks t = (6 when eqb (shape t).dimension 0) ∷ []

unfoldable pub type_answer : Map → ℕ → Answer
type_answer m c = answer (cell_checks m c) ((m.at c).code ∷ [])

-- "a licence number of 32 bits, given at insertion and read back with type and marks"
unfoldable pub licence_answer : Map → ℕ → Answer
licence_answer m c = answer (cell_checks m c) ((m.at c).licence ∷ [])

-- "where the type query refuses, that part is empty"
unfoldable pub marks_part : Map → ℕ → List ℕ
marks_part m c = cond (eqb (type_answer m c).refusal 0) (m.at c).marks []

-- "The sibling answer gains one word"
unfoldable pub sibling_answer : Map → ℕ → ℕ → Answer
sibling_answer m c f = answer (half_checks m c f) (sibling m (half_of c f) ∷ way_number (way m (half_of c f)) ∷ [])

-- with the ways beside it in an output of their own, as long as the shorter
unfoldable pub cycle_answer : Map → ℕ → ℕ → ℕ → Answer
cycle_answer m c f places = list_answer (half_checks m c f) (cycle m (half_of c f)) places

-- 1 for a border, 0 for none
unfoldable pub border_answer : Map → ℕ → ℕ → Answer
border_answer m c f = answer (half_checks m c f) (cond (border m (half_of c f)) 1 0 ∷ [])

unfoldable pub star_answer : Map → ℕ → ℕ → ℕ → Answer
star_answer m d v places = list_answer (star_checks m d v) (star m d v) places

unfoldable pub anchors_answer : Map → ℕ → ℕ → ℕ → Answer
anchors_answer m d v places = list_answer (star_checks m d v) (anchors m d v) places

-- "Where no anchor exists, the first anchor answers none": no value
unfoldable pub first_anchor_answer : Map → ℕ → ℕ → Answer
first_anchor_answer m d v = answer (star_checks m d v) (take 1 (anchors m d v))

unfoldable pub neighbours_answer : Map → ℕ → ℕ → Answer
neighbours_answer m c places = list_answer (cell_checks m c) (neighbours m c) places

-- "The lookup by mark set gives the smallest half-facet or says that there is none": no value
unfoldable pub lookup_answer : Map → List ℕ → Answer
lookup_answer m set = answer (set_checks m set) (take 1 (sharers m set))

unfoldable pub cells_answer : Map → ℕ → ℕ → Answer
cells_answer m t places = list_answer (type_checks t) (cells_of m t) places

unfoldable pub count_answer : Map → ℕ → Answer
count_answer m t = answer (type_checks t) (length (cells_of m t) ∷ [])

-- "After an edit a step gives the sibling as it is then, or the refusal for that half-facet."
unfoldable pub step_answer : Map → ℕ → Answer
step_answer m h = sibling_answer m (h / 8) (h % 8)

-- "an edition number, 1 or 2, kept in the head", read back
unfoldable pub edition_answer : Map → Answer
edition_answer m = answer [] (m.caps.edition ∷ [])
