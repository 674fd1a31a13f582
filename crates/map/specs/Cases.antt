-- "Twelve cases to prove": a row has the edits that make the mesh, a question, and the outline's answer.
use Rattle.std.specs.Prelude.{Bool, not, ◌&&◌, List, [], ◌∷◌, ◌++◌, ℕ, zero, suc, ◌+◌, ◌*◌}
use Rattle.lists.specs.Lists.{all, same, select}
use Rattle.numbers.specs.Sizes.{most_around, caps_under}
use Rattle.numbers.specs.Editions.{first_edition, second_edition}
use Rattle.map.specs.Cells.{body_of, licensed_body, Map}
use Rattle.map.specs.Siblings.{is_half, border}
use Rattle.map.specs.Stars.{star, anchors}
use Rattle.map.specs.Answers.{Answer, licence_answer, sibling_answer, star_answer, anchors_answer}
use Rattle.map.specs.History.{Edit, Insert, Remove, empty, history, edit_answer}

pub data Question : Type 0 where
  -- of a cell; of a cell and a facet; of a dimension and a mark; an edit tried
  Licence : ℕ → Question
  Sibling : ℕ → ℕ → Question
  Star : ℕ → ℕ → Question
  Anchors : ℕ → ℕ → Question
  Try : Edit → Question
  -- the border half-facets; the live half-facets that are no border; the stars and the anchors of all marks, in all dimensions, in one list
  Borders : Question
  Inner : Question
  AllStars : Question
  AllAnchors : Question

-- f 0, then f 1, and so on, n lists in one
unfoldable pub joined : (ℕ → List ℕ) → ℕ → List ℕ
joined f zero = []
joined f (suc n) = joined f n ++ f n

unfoldable pub replied : Answer → List ℕ → List ℕ
replied a l = a.refusal ∷ l

-- the refusal number, and what is given
unfoldable pub ask : Map → Question → List ℕ
ask m (Licence c) = replied (licence_answer m c) (licence_answer m c).values
ask m (Sibling c f) = replied (sibling_answer m c f) (sibling_answer m c f).values
ask m (Star d v) = replied (star_answer m d v most_around) (star m d v)
ask m (Anchors d v) = replied (anchors_answer m d v most_around) (anchors m d v)
ask m (Try e) = replied (edit_answer m e) []
ask m Borders = 0 ∷ select (λ h. is_half m h && border m h) (8 * m.caps.cells)
ask m Inner = 0 ∷ select (λ h. is_half m h && not (border m h)) (8 * m.caps.cells)
ask m AllStars = 0 ∷ joined (λ d. joined (star m (suc d)) m.caps.marks) 3
ask m AllAnchors = 0 ∷ joined (λ d. joined (anchors m (suc d)) m.caps.marks) 3

pub record CaseRow : Type 0 where
  pub edition : ℕ
  pub edits : List Edit
  pub question : Question
  pub answer : List ℕ

infix 20 ◌asked◌gives◌
unfoldable pub ◌asked◌gives◌ : List Edit → Question → List ℕ → CaseRow
edits asked q gives l = record { edition = first_edition; edits = edits; question = q; answer = l }

-- the row under edition 2
unfoldable pub second : CaseRow → CaseRow
second r = record { edition = second_edition; edits = r.edits; question = r.question; answer = r.answer }

-- the meshes of the cases, of 12 marks and 4 cells
unfoldable pub bar : ℕ → ℕ → ℕ → Edit
bar c a b = Insert c (body_of 1 (a ∷ b ∷ []))

unfoldable pub tri : ℕ → ℕ → ℕ → ℕ → Edit
tri c a b d = Insert c (body_of 2 (a ∷ b ∷ d ∷ []))

unfoldable pub quad : ℕ → ℕ → ℕ → ℕ → ℕ → Edit
quad c a b d e = Insert c (body_of 3 (a ∷ b ∷ d ∷ e ∷ []))

unfoldable pub tetra : ℕ → ℕ → ℕ → ℕ → ℕ → Edit
tetra c a b d e = Insert c (body_of 4 (a ∷ b ∷ d ∷ e ∷ []))

unfoldable pub p2 : List Edit
p2 = tri 0 0 1 2 ∷ []

unfoldable pub p3 : List Edit
p3 = tri 0 0 1 2 ∷ tri 1 2 1 3 ∷ []

unfoldable pub p4 : List Edit
p4 = tri 0 0 1 2 ∷ tri 1 0 1 3 ∷ tri 2 0 1 4 ∷ []

unfoldable pub p5 : List Edit
p5 = tri 0 0 1 2 ∷ tri 1 0 3 4 ∷ []

unfoldable pub p6 : List Edit
p6 = tetra 0 0 1 2 3 ∷ tetra 1 0 2 1 4 ∷ []

unfoldable pub p7 : List Edit
p7 = tri 0 0 2 1 ∷ tri 1 0 1 3 ∷ tri 2 1 2 3 ∷ tri 3 2 0 3 ∷ []

unfoldable pub p8 : List Edit
p8 = bar 0 0 1 ∷ bar 1 1 2 ∷ []

unfoldable pub p9 : List Edit
p9 = tri 0 0 1 2 ∷ tri 1 0 1 3 ∷ tri 2 0 1 4 ∷ Remove 1 ∷ []

unfoldable pub p12 : List Edit
p12 = tri 0 0 1 2 ∷ tetra 1 0 1 2 3 ∷ []

unfoldable pub two_quads : List Edit
two_quads = quad 0 0 1 2 3 ∷ quad 1 0 4 1 2 ∷ []

unfoldable pub bars : List Edit
bars = bar 0 0 1 ∷ bar 1 0 2 ∷ []

unfoldable pub two_tetras : List Edit
two_tetras = tetra 0 0 1 2 3 ∷ tetra 1 1 2 0 4 ∷ []

unfoldable pub brick : ℕ → ℕ → Edit
brick c v = Insert c (body_of 7 (v ∷ (1 + v) ∷ (2 + v) ∷ (3 + v) ∷ (4 + v) ∷ (5 + v) ∷ (6 + v) ∷ (7 + v) ∷ []))

unfoldable pub bricks : List Edit
bricks = brick 0 0 ∷ brick 1 4 ∷ []

unfoldable pub solids : List Edit
solids = brick 0 0 ∷ Insert 1 (body_of 6 (1 ∷ 2 ∷ 8 ∷ 5 ∷ 6 ∷ 9 ∷ [])) ∷ Insert 2 (body_of 5 (4 ∷ 6 ∷ 5 ∷ 7 ∷ 8 ∷ [])) ∷ quad 3 4 5 6 7 ∷ []

unfoldable pub three_tetras : List Edit
three_tetras = tetra 0 0 1 2 3 ∷ tetra 1 0 2 1 4 ∷ tetra 2 1 0 2 5 ∷ []

unfoldable pub one_gone : List Edit
one_gone = tetra 0 0 1 2 3 ∷ tetra 1 0 2 1 4 ∷ Remove 0 ∷ []

-- cell 0 with a licence, cell 1 with another that is removed, cell 2 without one
unfoldable pub licences : List Edit
licences =
    Insert 0 (licensed_body 2 4294967295 (0 ∷ 1 ∷ 2 ∷ [])) ∷ Insert 1 (licensed_body 1 7 (0 ∷ 1 ∷ [])) ∷ Remove 1 ∷ tri 2 2 1 3 ∷ []

unfoldable pub rows : List CaseRow
rows =
    -- P1 no cells: every star and anchor list is empty
    ([] asked AllStars gives 0 ∷ [])
    ∷ ([] asked AllAnchors gives 0 ∷ [])
    -- P2 cell 0 triangle (0,1,2): all border; the anchor of mark 2 is 1
    ∷ (p2 asked Borders gives 0 ∷ 0 ∷ 1 ∷ 2 ∷ [])
    ∷ (p2 asked Inner gives 0 ∷ [])
    ∷ (p2 asked Anchors 2 2 gives 0 ∷ 1 ∷ [])
    -- P3 add cell 1 triangle (2,1,3): 1 and 8 are siblings
    ∷ (p3 asked Sibling 0 1 gives 0 ∷ 8 ∷ 2 ∷ [])
    ∷ (p3 asked Sibling 1 0 gives 0 ∷ 1 ∷ 2 ∷ [])
    -- P4 triangles 0 (0,1,2), 1 (0,1,3), 2 (0,1,4): 0 to 8 to 16 to 0
    ∷ (p4 asked Sibling 0 0 gives 0 ∷ 8 ∷ 1 ∷ [])
    ∷ (p4 asked Sibling 1 0 gives 0 ∷ 16 ∷ 1 ∷ [])
    ∷ (p4 asked Sibling 2 0 gives 0 ∷ 0 ∷ 1 ∷ [])
    -- P5 triangles 0 (0,1,2), 1 (0,3,4): the anchors of mark 0 are 0 and 8
    ∷ (p5 asked Anchors 2 0 gives 0 ∷ 0 ∷ 8 ∷ [])
    -- P6 tetrahedra 0 (0,1,2,3), 1 (0,2,1,4): 0 and 8 are siblings; the anchor of mark 0 is 1
    ∷ (p6 asked Sibling 0 0 gives 0 ∷ 8 ∷ 2 ∷ [])
    ∷ (p6 asked Sibling 1 0 gives 0 ∷ 0 ∷ 2 ∷ [])
    ∷ (p6 asked Anchors 3 0 gives 0 ∷ 1 ∷ [])
    -- P7 triangles 0 (0,2,1), 1 (0,1,3), 2 (1,2,3), 3 (2,0,3): no border; the anchor of mark 3 is 9
    ∷ (p7 asked Borders gives 0 ∷ [])
    ∷ (p7 asked Anchors 2 3 gives 0 ∷ 9 ∷ [])
    -- P8 bars 0 (0,1), 1 (1,2): 1 and 8 are siblings; the anchor of mark 1 is 1
    ∷ (p8 asked Sibling 0 1 gives 0 ∷ 8 ∷ 2 ∷ [])
    ∷ (p8 asked Sibling 1 0 gives 0 ∷ 1 ∷ 2 ∷ [])
    ∷ (p8 asked Anchors 1 1 gives 0 ∷ 1 ∷ [])
    -- P9 P4 without cell 1: 0 to 16 to 0, and 8 is refused with 5
    ∷ (p9 asked Sibling 0 0 gives 0 ∷ 16 ∷ 1 ∷ [])
    ∷ (p9 asked Sibling 2 0 gives 0 ∷ 0 ∷ 1 ∷ [])
    ∷ (p9 asked Sibling 1 0 gives 5 ∷ [])
    -- P10 P2, then triangle (2,0,1) as cell 1: 10
    ∷ (p2 asked Try (tri 1 2 0 1) gives 10 ∷ [])
    -- P11 triangle (0,1,1): 9
    ∷ ([] asked Try (tri 0 0 1 1) gives 9 ∷ [])
    -- P12 P2 with tetrahedron 1 (0,1,2,3): no siblings across
    ∷ (p12 asked Borders gives 0 ∷ 0 ∷ 1 ∷ 2 ∷ 8 ∷ 9 ∷ 10 ∷ 11 ∷ [])
    -- request 3: quads 0 (0,1,2,3), 1 (0,4,1,2) share the edge of marks 1 and 2: "mark 0 then has two anchors", and mark 1 has one
    ∷ (two_quads asked Sibling 0 1 gives 0 ∷ 10 ∷ 1 ∷ [])
    ∷ (two_quads asked Anchors 2 0 gives 0 ∷ 0 ∷ 8 ∷ [])
    ∷ (two_quads asked Anchors 2 1 gives 0 ∷ 0 ∷ [])
    -- request 1: brick 1 on brick 0: 5 and 8 are siblings; the anchor of mark 4 is 1; a brick has six facets
    ∷ (bricks asked Sibling 0 5 gives 0 ∷ 8 ∷ 2 ∷ [])
    ∷ (bricks asked Sibling 1 0 gives 0 ∷ 5 ∷ 2 ∷ [])
    ∷ (bricks asked Anchors 3 4 gives 0 ∷ 1 ∷ [])
    ∷ (bricks asked Sibling 0 6 gives 13 ∷ [])
    -- a brick with wedge 1 at its side, 2 and 8, and pyramid 2 on its top in crossed order, 5 and 16; quad 3 there is no sibling of a face
    ∷ (solids asked Inner gives 0 ∷ 2 ∷ 5 ∷ 8 ∷ 16 ∷ [])
    -- "6 covers codes above 7"
    ∷ ([] asked Try (Insert 0 (body_of 8 [])) gives 6 ∷ [])
    -- request 8: under edition 2 a third solid on P6's face of marks 0, 1 and 2 is refused, of any type; after a removal it is none
    ∷ second (p6 asked Try (tetra 2 1 0 2 5) gives 19 ∷ [])
    ∷ second (p6 asked Try (Insert 2 (body_of 5 (0 ∷ 1 ∷ 5 ∷ 6 ∷ 2 ∷ []))) gives 19 ∷ [])
    ∷ second (one_gone asked Try (tetra 2 1 0 2 5) gives 0 ∷ [])
    -- a face of four marks, in crossed order
    ∷ second (bricks asked Try (Insert 2 (body_of 5 (4 ∷ 6 ∷ 5 ∷ 7 ∷ 8 ∷ []))) gives 19 ∷ [])
    -- 10 comes before; two solids, a triangle on their face and a third triangle on an edge are accepted
    ∷ second (p6 asked Try (tetra 2 4 0 1 2) gives 10 ∷ [])
    ∷ second (p6 asked Sibling 0 0 gives 0 ∷ 8 ∷ 2 ∷ [])
    ∷ second (p6 asked Try (tri 2 0 1 2) gives 0 ∷ [])
    ∷ second (p4 asked Sibling 2 0 gives 0 ∷ 0 ∷ 1 ∷ [])
    -- and under edition 1 a third solid is
    ∷ (three_tetras asked Sibling 1 0 gives 0 ∷ 16 ∷ 1 ∷ [])
    ∷ second (three_tetras asked Sibling 1 0 gives 0 ∷ 0 ∷ 2 ∷ [])
    -- request 6: a border is lone; the end of two bars at one place is same; faces same by rotation, and in crossed order neither
    ∷ (p2 asked Sibling 0 1 gives 0 ∷ 1 ∷ 0 ∷ [])
    ∷ (bars asked Sibling 0 0 gives 0 ∷ 8 ∷ 1 ∷ [])
    ∷ (two_tetras asked Sibling 0 0 gives 0 ∷ 8 ∷ 1 ∷ [])
    ∷ (solids asked Sibling 0 5 gives 0 ∷ 16 ∷ 3 ∷ [])
    -- request 10: the licence is read back; of a cell that was removed there is none; "Insert without one .. means 0."
    ∷ (licences asked Licence 0 gives 0 ∷ 4294967295 ∷ [])
    ∷ (licences asked Licence 1 gives 5 ∷ [])
    ∷ (licences asked Licence 2 gives 0 ∷ 0 ∷ [])
    -- another licence makes no other cell: 10
    ∷ (licences asked Try (Insert 1 (licensed_body 2 7 (2 ∷ 0 ∷ 1 ∷ []))) gives 10 ∷ [])
    ∷ []

-- a row holds: the mesh of its edits answers as it says
unfoldable pub holds_row : CaseRow → Bool
holds_row r = same (ask (history (empty (caps_under r.edition 12 4)) r.edits) r.question) r.answer

unfoldable pub hold : List CaseRow → Bool
hold l = all holds_row l
