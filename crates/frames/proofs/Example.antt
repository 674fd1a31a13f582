-- "One case whole, input left, output right", with the days that an edit has since request 9, and the byte of a sibling's way since request 6.
use mathlib.Core.Path.{◌≡◌, refl}
use mathlib.Core.List.{List, [], ◌∷◌}
use Prim.Native.Nat.{ℕ}
use Rattle.lists.specs.Lists.{any, all, has, same, same_set, repeats, keep, select, first, after, list_of}
use Rattle.numbers.specs.Half.{half_of}
use Rattle.shapes.specs.Shapes as S
use Rattle.map.specs.Cells.{no_cell, body_in, map_of, live, dimension_at, holds, facets_at, shares, cells_of}
use Rattle.map.specs.Siblings.{is_half, marks_of, sharers, siblings, sibling, border}
use Rattle.map.specs.Ways.{way_number, turned, rotation, runs, direction, between, way}
use Rattle.map.specs.Groups.{grow, grown, group_of}
use Rattle.map.specs.Stars.{holders, star, linked, group, halves_at, anchor, anchors}
use Rattle.map.specs.Answers.{◌when◌, answer, third, insert_checks, cell_checks, half_checks, star_checks}
use Rattle.map.specs.History.{empty, put, edit_answer, changed, edited, history}
use Rattle.journal_store.specs.Days.{since, map_after, last_or, last_day, enter_answer, entered}
use Rattle.frames.specs.Frames.{digits, place_of, digit_of, bad_line, byte_at, bytes_of, number_at, two_bytes, marks_from, ◌sized◌means◌, rows, meaning, frame_in, frame_of, each, counted, cell_and_facet, sibling_bytes, begun, today, reply_to, journal_after, hex, written, output_from, output}

-- the left column, a line each
unfoldable pub given : List ℕ
given =
    102 ∷ 48 ∷ 48 ∷ 48 ∷ 48 ∷ 54 ∷ 48 ∷ 48 ∷ 48 ∷ 52 ∷ 10 ∷
    97 ∷ 48 ∷ 48 ∷ 48 ∷ 48 ∷ 49 ∷ 48 ∷ 48 ∷ 48 ∷ 48 ∷ 48 ∷ 50 ∷ 48 ∷ 48 ∷ 48 ∷ 48 ∷ 48 ∷ 48 ∷ 48 ∷ 49 ∷ 48 ∷ 48 ∷ 48 ∷ 50 ∷ 10 ∷
    97 ∷ 48 ∷ 48 ∷ 48 ∷ 48 ∷ 49 ∷ 48 ∷ 48 ∷ 48 ∷ 49 ∷ 48 ∷ 50 ∷ 48 ∷ 48 ∷ 48 ∷ 50 ∷ 48 ∷ 48 ∷ 48 ∷ 49 ∷ 48 ∷ 48 ∷ 48 ∷ 51 ∷ 10 ∷
    53 ∷ 48 ∷ 48 ∷ 50 ∷ 48 ∷ 48 ∷ 48 ∷ 49 ∷ 10 ∷
    53 ∷ 49 ∷ 48 ∷ 50 ∷ 48 ∷ 48 ∷ 48 ∷ 49 ∷ 10 ∷
    53 ∷ 98 ∷ 48 ∷ 48 ∷ 48 ∷ 48 ∷ 48 ∷ 49 ∷ 10 ∷
    100 ∷ 48 ∷ 48 ∷ 48 ∷ 48 ∷ 50 ∷ 48 ∷ 48 ∷ 48 ∷ 48 ∷ 10 ∷
    53 ∷ 48 ∷ 48 ∷ 50 ∷ 48 ∷ 48 ∷ 48 ∷ 49 ∷ 10 ∷
    100 ∷ 48 ∷ 48 ∷ 48 ∷ 48 ∷ 50 ∷ 48 ∷ 48 ∷ 48 ∷ 48 ∷ 10 ∷
    10 ∷
    []

-- the right column, a line each
unfoldable pub expected : List ℕ
expected =
    48 ∷ 48 ∷ 10 ∷
    48 ∷ 48 ∷ 10 ∷
    48 ∷ 48 ∷ 10 ∷
    48 ∷ 48 ∷ 48 ∷ 48 ∷ 48 ∷ 50 ∷ 48 ∷ 48 ∷ 48 ∷ 48 ∷ 48 ∷ 48 ∷ 48 ∷ 49 ∷ 10 ∷
    48 ∷ 48 ∷ 48 ∷ 48 ∷ 48 ∷ 49 ∷ 48 ∷ 48 ∷ 48 ∷ 48 ∷ 48 ∷ 48 ∷ 10 ∷
    48 ∷ 48 ∷ 48 ∷ 48 ∷ 48 ∷ 49 ∷ 48 ∷ 48 ∷ 48 ∷ 50 ∷ 10 ∷
    48 ∷ 48 ∷ 10 ∷
    48 ∷ 48 ∷ 48 ∷ 48 ∷ 48 ∷ 49 ∷ 48 ∷ 48 ∷ 48 ∷ 49 ∷ 10 ∷
    48 ∷ 53 ∷ 10 ∷
    48 ∷ 102 ∷ 10 ∷
    []

pub worked : output given ≡ expected
unfolding given expected any all has same_set repeats keep select first after list_of half_of S.no_shape S.shapes S.shape S.facet_count no_cell body_in map_of live dimension_at holds facets_at shares cells_of is_half marks_of sharers siblings sibling border same way_number turned rotation runs direction between way grow grown group_of holders star linked group halves_at anchor anchors ◌when◌ answer third insert_checks cell_checks half_checks star_checks empty put edit_answer changed edited history since map_after last_or last_day enter_answer entered digits place_of digit_of bad_line byte_at bytes_of number_at two_bytes marks_from ◌sized◌means◌ rows meaning frame_in frame_of each counted cell_and_facet sibling_bytes begun today reply_to journal_after hex written output_from output
worked = refl

-- frames that are refused, a line each, and what is written for them
unfoldable pub broken : List ℕ
broken =
    -- a capital
    70 ∷ 48 ∷ 48 ∷ 48 ∷ 48 ∷ 54 ∷ 48 ∷ 48 ∷ 48 ∷ 52 ∷ 10 ∷
    -- an odd count of digits
    102 ∷ 48 ∷ 48 ∷ 48 ∷ 48 ∷ 54 ∷ 48 ∷ 48 ∷ 48 ∷ 10 ∷
    -- a frame that stops before its fixed fields
    102 ∷ 48 ∷ 48 ∷ 48 ∷ 48 ∷ 54 ∷ 48 ∷ 48 ∷ 10 ∷
    -- trailing bytes
    102 ∷ 48 ∷ 48 ∷ 48 ∷ 48 ∷ 54 ∷ 48 ∷ 48 ∷ 48 ∷ 52 ∷ 97 ∷ 97 ∷ 10 ∷
    -- 385 marks
    102 ∷ 48 ∷ 48 ∷ 49 ∷ 56 ∷ 49 ∷ 48 ∷ 48 ∷ 48 ∷ 49 ∷ 10 ∷
    -- 385 cells
    102 ∷ 48 ∷ 48 ∷ 48 ∷ 48 ∷ 49 ∷ 48 ∷ 49 ∷ 56 ∷ 49 ∷ 10 ∷
    102 ∷ 48 ∷ 48 ∷ 48 ∷ 48 ∷ 54 ∷ 48 ∷ 48 ∷ 48 ∷ 52 ∷ 10 ∷
    -- whole marks but wrong count
    97 ∷ 48 ∷ 48 ∷ 48 ∷ 48 ∷ 53 ∷ 48 ∷ 48 ∷ 48 ∷ 48 ∷ 48 ∷ 50 ∷ 48 ∷ 48 ∷ 48 ∷ 48 ∷ 48 ∷ 48 ∷ 48 ∷ 49 ∷ 10 ∷
    -- an unknown type even so
    97 ∷ 48 ∷ 48 ∷ 48 ∷ 48 ∷ 53 ∷ 48 ∷ 48 ∷ 48 ∷ 48 ∷ 48 ∷ 57 ∷ 10 ∷
    -- half a mark
    97 ∷ 48 ∷ 48 ∷ 48 ∷ 48 ∷ 53 ∷ 48 ∷ 48 ∷ 48 ∷ 48 ∷ 48 ∷ 50 ∷ 48 ∷ 48 ∷ 48 ∷ 48 ∷ 48 ∷ 48 ∷ 48 ∷ 49 ∷ 48 ∷ 48 ∷ 10 ∷
    -- an insert and a remove that stop in their fixed fields, the day among them
    97 ∷ 48 ∷ 48 ∷ 48 ∷ 48 ∷ 53 ∷ 48 ∷ 48 ∷ 48 ∷ 48 ∷ 10 ∷
    100 ∷ 48 ∷ 48 ∷ 48 ∷ 48 ∷ 48 ∷ 10 ∷
    97 ∷ 48 ∷ 48 ∷ 48 ∷ 48 ∷ 53 ∷ 48 ∷ 48 ∷ 48 ∷ 48 ∷ 48 ∷ 50 ∷ 48 ∷ 48 ∷ 48 ∷ 48 ∷ 48 ∷ 48 ∷ 48 ∷ 49 ∷ 48 ∷ 48 ∷ 48 ∷ 50 ∷ 10 ∷
    -- dimension 4
    53 ∷ 48 ∷ 48 ∷ 52 ∷ 48 ∷ 48 ∷ 48 ∷ 49 ∷ 10 ∷
    -- facet 3 of a triangle
    53 ∷ 98 ∷ 48 ∷ 48 ∷ 48 ∷ 48 ∷ 48 ∷ 51 ∷ 10 ∷
    -- cell 4 of 4
    100 ∷ 48 ∷ 48 ∷ 48 ∷ 48 ∷ 53 ∷ 48 ∷ 48 ∷ 48 ∷ 52 ∷ 10 ∷
    -- a day before the last, before the mesh's own
    100 ∷ 48 ∷ 48 ∷ 48 ∷ 48 ∷ 52 ∷ 48 ∷ 48 ∷ 48 ∷ 52 ∷ 10 ∷
    -- a remove with trailing bytes
    100 ∷ 48 ∷ 48 ∷ 48 ∷ 48 ∷ 53 ∷ 48 ∷ 48 ∷ 48 ∷ 48 ∷ 48 ∷ 48 ∷ 10 ∷
    -- an unknown code
    48 ∷ 48 ∷ 10 ∷
    -- 64 digits: 13 marks
    97 ∷ 48 ∷ 48 ∷ 48 ∷ 48 ∷ 53 ∷ 48 ∷ 48 ∷ 48 ∷ 49 ∷ 48 ∷ 50 ∷ 48 ∷ 48 ∷ 48 ∷ 48 ∷ 48 ∷ 48 ∷ 48 ∷ 48 ∷ 48 ∷ 48 ∷ 48 ∷ 48 ∷ 48 ∷ 48 ∷ 48 ∷ 48 ∷ 48 ∷ 48 ∷ 48 ∷ 48 ∷ 48 ∷ 48 ∷ 48 ∷ 48 ∷ 48 ∷ 48 ∷ 48 ∷ 48 ∷ 48 ∷ 48 ∷ 48 ∷ 48 ∷ 48 ∷ 48 ∷ 48 ∷ 48 ∷ 48 ∷ 48 ∷ 48 ∷ 48 ∷ 48 ∷ 48 ∷ 48 ∷ 48 ∷ 48 ∷ 48 ∷ 48 ∷ 48 ∷ 48 ∷ 48 ∷ 48 ∷ 48 ∷ 10 ∷
    -- 66 digits
    97 ∷ 48 ∷ 48 ∷ 48 ∷ 48 ∷ 53 ∷ 48 ∷ 48 ∷ 48 ∷ 49 ∷ 48 ∷ 50 ∷ 48 ∷ 48 ∷ 48 ∷ 48 ∷ 48 ∷ 48 ∷ 48 ∷ 48 ∷ 48 ∷ 48 ∷ 48 ∷ 48 ∷ 48 ∷ 48 ∷ 48 ∷ 48 ∷ 48 ∷ 48 ∷ 48 ∷ 48 ∷ 48 ∷ 48 ∷ 48 ∷ 48 ∷ 48 ∷ 48 ∷ 48 ∷ 48 ∷ 48 ∷ 48 ∷ 48 ∷ 48 ∷ 48 ∷ 48 ∷ 48 ∷ 48 ∷ 48 ∷ 48 ∷ 48 ∷ 48 ∷ 48 ∷ 48 ∷ 48 ∷ 48 ∷ 48 ∷ 48 ∷ 48 ∷ 48 ∷ 48 ∷ 48 ∷ 48 ∷ 48 ∷ 48 ∷ 48 ∷ 10 ∷
    -- an empty line
    10 ∷
    -- a last line without its end
    100 ∷ 48 ∷ 48 ∷ 48 ∷ 48 ∷ 53 ∷ 48 ∷ 48 ∷ 48 ∷ 48 ∷ []

unfoldable pub refusals : List ℕ
refusals =
    48 ∷ 102 ∷ 10 ∷
    48 ∷ 102 ∷ 10 ∷
    48 ∷ 102 ∷ 10 ∷
    48 ∷ 102 ∷ 10 ∷
    48 ∷ 49 ∷ 10 ∷
    48 ∷ 49 ∷ 10 ∷
    48 ∷ 48 ∷ 10 ∷
    48 ∷ 55 ∷ 10 ∷
    48 ∷ 54 ∷ 10 ∷
    48 ∷ 102 ∷ 10 ∷
    48 ∷ 102 ∷ 10 ∷
    48 ∷ 102 ∷ 10 ∷
    48 ∷ 48 ∷ 10 ∷
    48 ∷ 54 ∷ 10 ∷
    48 ∷ 100 ∷ 10 ∷
    48 ∷ 51 ∷ 10 ∷
    49 ∷ 52 ∷ 10 ∷
    48 ∷ 102 ∷ 10 ∷
    48 ∷ 102 ∷ 10 ∷
    48 ∷ 55 ∷ 10 ∷
    48 ∷ 102 ∷ 10 ∷
    48 ∷ 102 ∷ 10 ∷
    48 ∷ 102 ∷ 10 ∷
    []

pub broken_frames : output broken ≡ refusals
unfolding broken refusals any all has same_set repeats keep select first after list_of half_of S.no_shape S.shapes S.shape S.facet_count no_cell body_in map_of live dimension_at holds facets_at shares cells_of is_half marks_of sharers siblings sibling border same way_number turned rotation runs direction between way grow grown group_of holders star linked group halves_at anchor anchors ◌when◌ answer third insert_checks cell_checks half_checks star_checks empty put edit_answer changed edited history since map_after last_or last_day enter_answer entered digits place_of digit_of bad_line byte_at bytes_of number_at two_bytes marks_from ◌sized◌means◌ rows meaning frame_in frame_of each counted cell_and_facet sibling_bytes begun today reply_to journal_after hex written output_from output
broken_frames = refl

-- a journal that holds one edit: "then the mesh's own, then 23 if the journal is full", and an accepted f0 begins another
unfoldable pub filling : List ℕ
filling =
    102 ∷ 48 ∷ 48 ∷ 48 ∷ 48 ∷ 54 ∷ 48 ∷ 48 ∷ 48 ∷ 52 ∷ 10 ∷
    97 ∷ 48 ∷ 48 ∷ 48 ∷ 48 ∷ 55 ∷ 48 ∷ 48 ∷ 48 ∷ 48 ∷ 48 ∷ 50 ∷ 48 ∷ 48 ∷ 48 ∷ 48 ∷ 48 ∷ 48 ∷ 48 ∷ 49 ∷ 48 ∷ 48 ∷ 48 ∷ 50 ∷ 10 ∷
    -- the mesh's own before 23
    100 ∷ 48 ∷ 48 ∷ 48 ∷ 48 ∷ 55 ∷ 48 ∷ 48 ∷ 48 ∷ 49 ∷ 10 ∷
    -- no place is left
    100 ∷ 48 ∷ 48 ∷ 48 ∷ 48 ∷ 55 ∷ 48 ∷ 48 ∷ 48 ∷ 48 ∷ 10 ∷
    -- a new journal
    102 ∷ 48 ∷ 48 ∷ 48 ∷ 48 ∷ 54 ∷ 48 ∷ 48 ∷ 48 ∷ 52 ∷ 10 ∷
    -- of a day before those of the last journal
    97 ∷ 48 ∷ 48 ∷ 48 ∷ 48 ∷ 54 ∷ 48 ∷ 48 ∷ 48 ∷ 48 ∷ 48 ∷ 49 ∷ 48 ∷ 48 ∷ 48 ∷ 48 ∷ 48 ∷ 48 ∷ 48 ∷ 49 ∷ 10 ∷
    []

unfoldable pub filled : List ℕ
filled =
    48 ∷ 48 ∷ 10 ∷
    48 ∷ 48 ∷ 10 ∷
    48 ∷ 53 ∷ 10 ∷
    49 ∷ 55 ∷ 10 ∷
    48 ∷ 48 ∷ 10 ∷
    48 ∷ 48 ∷ 10 ∷
    []

pub full_journal : output_from (begun 1 0 0) [] filling ≡ filled
unfolding filling filled any all has same_set repeats keep select first after list_of half_of S.no_shape S.shapes S.shape S.facet_count no_cell body_in map_of live dimension_at holds facets_at shares cells_of is_half marks_of sharers siblings sibling border same way_number turned rotation runs direction between way grow grown group_of holders star linked group halves_at anchor anchors ◌when◌ answer third insert_checks cell_checks half_checks star_checks empty put edit_answer changed edited history since map_after last_or last_day enter_answer entered digits place_of digit_of bad_line byte_at bytes_of number_at two_bytes marks_from ◌sized◌means◌ rows meaning frame_in frame_of each counted cell_and_facet sibling_bytes begun today reply_to journal_after hex written output_from output
full_journal = refl
