-- What the first half of the whole check asks of memory: every record by itself, and every chain. Defined on any memory.
use Rattle.std.specs.Prelude.{Bool, false, cond, not, ◌&&◌, ◌||◌, List, ℕ, zero, suc, ◌/◌, ◌%◌, eqb, leb, ltb, get_or, length}
use Rattle.lists.specs.Lists.{any, all, repeats, every}
use Rattle.shapes.specs.Shapes.{shape, facet_count}
use Rattle.shapes.specs.Sizes.{most_marks, most_facets}
use Rattle.numbers.specs.declared.Caps.{Caps}
use Rattle.numbers.specs.Sizes.{most_around}
use Rattle.store.specs.Fields.{First, Held, Sib, Link, Far}
use Rattle.store.specs.Slots.{InMark, InCell, read, code_in, licence_in, corner_in}
use Rattle.store.specs.Rests.{head_blank, mark_blank, cell_blank}
use Rattle.facet.specs.Facet.{marks_in}
use Rattle.numbers.specs.Half.{cut}
use Rattle.store.specs.Layout.{near_marks}

-- no cell, or a type of the table
unfoldable pub typed : ℕ → Bool
typed code = eqb code 0 || ltb 0 (shape code).dimension

-- the marks are marks of the mesh, none twice
unfoldable pub fine : Caps → List ℕ → Bool
fine caps marks = not (any (leb caps.marks) marks) && not (repeats marks)

-- the word at the kth of such fields: 0 from the nth on
unfoldable pub bare : ℕ → ℕ → ℕ → Bool
bare n k x = ltb k n || eqb x 0

-- the mark at a corner that stands in the second part: all of them where there are more than four
unfoldable pub far_mark : List ℕ → ℕ → ℕ
far_mark marks k = cond (ltb near_marks (length marks)) (get_or marks k 0) 0

-- a corner of a cell with these marks: its mark in both parts, 0 behind them; and no link behind them
unfoldable pub corner_right : List ℕ → Caps → ℕ → List ℕ → ℕ → Bool
corner_right w caps c marks k =
    eqb (corner_in w caps c k) (get_or marks k 0)
    && (eqb (read w caps (InCell c (Far k))) (far_mark marks k) && bare (length marks) k (read w caps (InCell c (Link k))))

-- a facet of a cell with n facets: no sibling behind them. A half-facet's number has room for the cells below 65,536
unfoldable pub facet_right : List ℕ → Caps → ℕ → ℕ → ℕ → Bool
facet_right w caps c n f = bare n f (read w caps (InCell (cut c) (Sib f)))

-- a live cell may have any licence; under a number that is not live there is none
unfoldable pub licence_right : ℕ → ℕ → Bool
licence_right code licence = not (eqb code 0) || eqb licence 0

-- the words that say nothing, and the licence
unfoldable pub rest_right : List ℕ → Caps → ℕ → Bool
rest_right w caps c = cell_blank w caps c && licence_right (code_in w caps c) (licence_in w caps c)

-- a cell's record: its type, its marks, each corner, each facet, the words that say nothing, and its licence
unfoldable pub record_right : List ℕ → Caps → ℕ → Bool
record_right w caps c =
    typed (code_in w caps c)
    && (fine caps (marks_in w caps c)
    && (every most_marks (corner_right w caps c (marks_in w caps c))
    && (every most_facets (facet_right w caps c (facet_count (code_in w caps c))) && rest_right w caps c)))

-- the link behind a link, at the corner that it says
unfoldable pub link_behind : List ℕ → Caps → ℕ → ℕ
link_behind w caps at = read w caps (InCell (at / 8) (Link (at % 8)))

-- a cell may stand in the chain of v by its corner k: it is from low on, below the capacity, and v is its mark there
unfoldable pub stands : List ℕ → Caps → ℕ → ℕ → ℕ → ℕ → Bool
stands w caps v low c k =
    leb low c && (ltb c caps.cells && (ltb k (length (marks_in w caps c)) && eqb (get_or (marks_in w caps c) k 0) v))

-- the chain of v from a link on, after n cells: each may stand there, they ascend, and the count is theirs; at most k follow
unfoldable pub goes : List ℕ → Caps → ℕ → ℕ → ℕ → ℕ → ℕ → Bool
goes w caps v zero link low n = eqb link 0 && eqb (read w caps (InMark v Held)) n
goes w caps v (suc k) zero low n = eqb (read w caps (InMark v Held)) n
goes w caps v (suc k) (suc at) low n =
    stands w caps v low (at / 8) (at % 8) && goes w caps v k (link_behind w caps at) (suc (at / 8)) (suc n)

-- the chain from a link on meets the cell c among its next k cells
unfoldable pub meets_from : List ℕ → Caps → ℕ → ℕ → ℕ → Bool
meets_from w caps c zero link = false
meets_from w caps c (suc k) zero = false
meets_from w caps c (suc k) (suc at) = eqb (at / 8) c || meets_from w caps c k (link_behind w caps at)

-- the chain of v is right; it meets the cell c
unfoldable pub chain_right : List ℕ → Caps → ℕ → Bool
chain_right w caps v = goes w caps v most_around (read w caps (InMark v First)) 0 0

unfoldable pub meets : List ℕ → Caps → ℕ → ℕ → Bool
meets w caps c v = meets_from w caps c most_around (read w caps (InMark v First))

-- a mark's record, and its chain
unfoldable pub mark_right : List ℕ → Caps → ℕ → Bool
mark_right w caps v = mark_blank w caps v && chain_right w caps v

-- a cell's record, and the cell stands in the chain of each of its marks
unfoldable pub cell_right : List ℕ → Caps → ℕ → Bool
cell_right w caps c = record_right w caps c && all (meets w caps c) (marks_in w caps c)

-- memory is laid out: its records and its chains
unfoldable pub laid_in : List ℕ → Caps → Bool
laid_in w caps = head_blank w caps && (every caps.marks (mark_right w caps) && every caps.cells (cell_right w caps))
