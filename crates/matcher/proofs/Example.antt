-- Complaints worked, a row each: the day, the mark and the licences to ask.
use mathlib.Core.Path.{◌≡◌, refl}
use mathlib.Core.List.{List, [], ◌∷◌, map}
use Prim.Native.Nat.{ℕ}
use Rattle.lists.specs.Lists.{any, all, has, same_set, repeats, select}
use Rattle.numbers.specs.Sizes.{capacities}
use Rattle.shapes.specs.Shapes as S
use Rattle.map.specs.Cells.{licensed_body, no_cell, body_in, map_of, live, holds, facets_at, cells_of}
use Rattle.map.specs.Siblings.{is_half, marks_of, sharers}
use Rattle.map.specs.Stars.{holders}
use Rattle.map.specs.Answers.{◌when◌, answer, third, insert_checks, cell_checks}
use Rattle.map.specs.History.{Insert, Remove, empty, put, edit_answer, changed, edited, history}
use Rattle.journal_store.specs.Days.{Dated, dated, before, map_after, map_on}
use Rattle.matcher.specs.Licences.{put_once, ascending, cells_around, licences_around, licences_on}

-- a triangle of licence 7; then one of licence 3 that touches it at mark 1 alone, and a bar of licence 7; then a bar without a licence, and the
-- second triangle removed
unfoldable pub past : List Dated
past =
    dated 10 (Insert 0 (licensed_body 2 7 (0 ∷ 1 ∷ 2 ∷ [])))
    ∷ dated 20 (Insert 1 (licensed_body 2 3 (1 ∷ 3 ∷ 4 ∷ [])))
    ∷ dated 20 (Insert 2 (licensed_body 1 7 (1 ∷ 5 ∷ [])))
    ∷ dated 30 (Insert 3 (licensed_body 1 0 (0 ∷ 5 ∷ [])))
    ∷ dated 40 (Remove 1)
    ∷ []

pub record Complaint : Type 0 where
  pub day : ℕ
  pub mark : ℕ

unfoldable pub complaint_of : ℕ → ℕ → Complaint
complaint_of day mark = record { day = day; mark = mark }

unfoldable pub asked : List Complaint
asked =
    -- before the first edit, and on its day
    complaint_of 9 1
    ∷ complaint_of 10 1
    -- two sheets that touch at the mark, and two cells with one licence
    ∷ complaint_of 20 1
    -- for a day before a cell was removed, for that day, and for one after the last
    ∷ complaint_of 39 1
    ∷ complaint_of 40 1
    ∷ complaint_of 65535 1
    ∷ complaint_of 39 3
    ∷ complaint_of 40 3
    -- a cell without a licence is around the mark
    ∷ complaint_of 30 5
    ∷ complaint_of 30 0
    ∷ []

unfoldable pub expected : List (List ℕ)
expected =
    []
    ∷ (7 ∷ [])
    ∷ (3 ∷ 7 ∷ [])
    ∷ (3 ∷ 7 ∷ [])
    ∷ (7 ∷ [])
    ∷ (7 ∷ [])
    ∷ (3 ∷ [])
    ∷ []
    ∷ (7 ∷ [])
    ∷ (7 ∷ [])
    ∷ []

pub worked : map (λ (q : Complaint). licences_on (empty (capacities 6 4)) past q.day q.mark) asked ≡ expected
unfolding past complaint_of asked expected any all has same_set repeats select S.no_shape S.shapes S.shape S.facet_count no_cell body_in map_of live holds facets_at cells_of is_half marks_of sharers holders ◌when◌ answer third insert_checks cell_checks empty put edit_answer changed edited history before map_after map_on put_once ascending cells_around licences_around licences_on
worked = refl
