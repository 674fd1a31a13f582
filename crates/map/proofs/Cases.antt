-- The twelve cases hold; and rows with another answer do not, so that each row says something.
use mathlib.Core.Path.{◌≡◌, refl}
use mathlib.Core.Bool.{Bool, true, not}
use mathlib.Core.List.{List, [], ◌∷◌}
use Rattle.lists.specs.Lists.{any, all, has, same, same_set, repeats, keep, select, first, after, list_of}
use Rattle.numbers.specs.Half.{half_of}
use Rattle.shapes.specs.Shapes as S
use Rattle.map.specs.Cells.{licensed_body, no_cell, body_in, map_of, live, dimension_at, holds, facets_at, shares, cells_of}
use Rattle.map.specs.Siblings.{is_half, marks_of, sharers, siblings, sibling, border}
use Rattle.map.specs.Ways.{way_number, turned, rotation, runs, direction, between, way}
use Rattle.map.specs.Groups.{grow, grown, group_of}
use Rattle.map.specs.Stars.{holders, star, linked, group, halves_at, anchor, anchors}
use Rattle.map.specs.Answers.{◌when◌, answer, list_answer, third, insert_checks, cell_checks, half_checks, star_checks, licence_answer, sibling_answer, star_answer, anchors_answer}
use Rattle.map.specs.History.{Insert, empty, put, edit_answer, changed, edited, history}
use Rattle.map.specs.Cases.{CaseRow, Licence, Sibling, Anchors, Try, Borders, Inner, AllStars, AllAnchors, joined, replied, ask, ◌asked◌gives◌, second, bar, tri, quad, tetra, p2, p3, p4, p5, p6, p7, p8, p9, p12, two_quads, bars, two_tetras, brick, bricks, solids, three_tetras, one_gone, licences, rows, holds_row, hold}

pub cases : hold rows ≡ true
unfolding any all has same_set repeats keep select first after half_of S.no_shape S.shapes S.shape S.facet_count no_cell body_in map_of live dimension_at holds facets_at shares cells_of is_half marks_of sharers siblings sibling border list_of way_number turned rotation runs direction between way grow grown group_of holders star linked group halves_at anchor anchors ◌when◌ answer list_answer third insert_checks cell_checks half_checks star_checks licence_answer sibling_answer star_answer anchors_answer empty put edit_answer changed edited history joined replied ask ◌asked◌gives◌ second same bar tri quad tetra p2 p3 p4 p5 p6 p7 p8 p9 p12 two_quads bars two_tetras brick bricks solids three_tetras one_gone licences rows holds_row hold
cases = refl

-- the outline's rows and those of the requests, each with one answer that a fault would give
unfoldable pub wrong_rows : List CaseRow
wrong_rows =
    -- P1: with no cells there is one in a star; there is an anchor
    ([] asked AllStars gives 0 ∷ 0 ∷ [])
    ∷ ([] asked AllAnchors gives 0 ∷ 0 ∷ [])
    -- P2: 2 is no border; the anchor of mark 2 is 2
    ∷ (p2 asked Borders gives 0 ∷ 0 ∷ 1 ∷ [])
    ∷ (p2 asked Anchors 2 2 gives 0 ∷ 2 ∷ [])
    -- P3: 1 is its own sibling
    ∷ (p3 asked Sibling 0 1 gives 0 ∷ 1 ∷ 2 ∷ [])
    -- P4: 8 leads back to 0
    ∷ (p4 asked Sibling 1 0 gives 0 ∷ 0 ∷ 1 ∷ [])
    -- P5: the anchor of the second sheet is missing
    ∷ (p5 asked Anchors 2 0 gives 0 ∷ 0 ∷ [])
    -- P6: the anchor is 0, which is no border
    ∷ (p6 asked Anchors 3 0 gives 0 ∷ 0 ∷ [])
    -- P7: the anchor of mark 3 is 10
    ∷ (p7 asked Anchors 2 3 gives 0 ∷ 10 ∷ [])
    -- P8: the anchor of mark 1 is 8
    ∷ (p8 asked Anchors 1 1 gives 0 ∷ 8 ∷ [])
    -- P9: 8 is refused with 3
    ∷ (p9 asked Sibling 1 0 gives 3 ∷ [])
    -- P10: a second triangle on the set is accepted
    ∷ (p2 asked Try (tri 1 2 0 1) gives 0 ∷ [])
    -- P11: a mark twice is refused with 8
    ∷ ([] asked Try (tri 0 0 1 1) gives 8 ∷ [])
    -- P12: 0 is no border
    ∷ (p12 asked Borders gives 0 ∷ 1 ∷ 2 ∷ 8 ∷ 9 ∷ 10 ∷ 11 ∷ [])
    -- request 1: two faces in crossed order are no siblings
    ∷ (solids asked Inner gives 0 ∷ 2 ∷ 8 ∷ [])
    -- request 6: they are opposite
    ∷ (solids asked Sibling 0 5 gives 0 ∷ 16 ∷ 2 ∷ [])
    -- request 8: 19 comes before 10
    ∷ second (p6 asked Try (tetra 2 4 0 1 2) gives 19 ∷ [])
    -- request 10: the licence of another cell; that of a cell that was removed; one where none was given; a cell alike of another licence
    ∷ (licences asked Licence 0 gives 0 ∷ 7 ∷ [])
    ∷ (licences asked Licence 1 gives 0 ∷ 7 ∷ [])
    ∷ (licences asked Licence 2 gives 0 ∷ 7 ∷ [])
    ∷ (licences asked Try (Insert 1 (licensed_body 2 7 (2 ∷ 0 ∷ 1 ∷ []))) gives 0 ∷ [])
    ∷ []

unfoldable pub fails : CaseRow → Bool
fails r = not (holds_row r)

pub wrong : all fails wrong_rows ≡ true
unfolding any all has same_set repeats keep select first after half_of S.no_shape S.shapes S.shape S.facet_count no_cell body_in map_of live dimension_at holds facets_at shares cells_of is_half marks_of sharers siblings sibling border list_of way_number turned rotation runs direction between way grow grown group_of holders star linked group halves_at anchor anchors ◌when◌ answer list_answer third insert_checks cell_checks half_checks star_checks licence_answer sibling_answer star_answer anchors_answer empty put edit_answer changed edited history joined replied ask ◌asked◌gives◌ second same bar tri quad tetra p2 p3 p4 p5 p6 p7 p8 p9 p12 two_quads bars two_tetras brick bricks solids three_tetras one_gone licences wrong_rows holds_row fails
wrong = refl
