-- What the records of memory that is laid out are.
use mathlib.Core.Path.{◌≡◌, refl, sym, ◌∙◌}
use mathlib.Core.Bool.{true, false, not, ◌&&◌}
use mathlib.Core.List.{List}
use Prim.Native.Nat.{ℕ, ◌+◌, ◌%◌, ◌<◌, ◌≤◌}
use native.Mathlib.Decide.{dec_lt}
use native.Mathlib.Omega.{arith}
use borrow.Author.Tests.{eqb-true, le-leb}
use lib.Dec.{eqb, leb}
use lib.ListN.{get_or, length}
use Rattle.lists.specs.Lists.{has, any, repeats, every}
use Rattle.lists.proofs.Bools.{clash, and_left, and_right, not_false_true}
use Rattle.lists.proofs.Members.{all_has}
use Rattle.lists.proofs.Counts.{none_has}
use Rattle.lists.proofs.Every.{every_at}
use Rattle.words.proofs.Fits.{part_length}
use Rattle.shapes.specs.Shapes.{shape, facet_count}
use Rattle.shapes.proofs.Facts.{facts}
use Rattle.numbers.specs.declared.Caps.{Caps}
use Rattle.numbers.specs.Editions.{is_edition}
use Rattle.numbers.specs.Sizes.{most_capacity}
use Rattle.store.specs.Layout.{near_marks, magic, room, near_at, far_at}
use Rattle.store.specs.Fields.{Magic, MarkCap, CellCap, Edition, Near, Sib, Link, Far}
use Rattle.store.specs.Slots.{InCell, read, code_in, licence_in, corner_in, marks_at}
use Rattle.store.specs.Open.{head_in}
use Rattle.store.specs.Rests.{head_blank, mark_blank, cell_blank}
use Rattle.store.proofs.Marks.{corner_near, marks_fit}
use Rattle.facet.specs.Facet.{marks_in}
use Rattle.record_checks.specs.Laid.{typed, fine, bare, far_mark, corner_right, facet_right, rest_right, record_right, chain_right, meets, mark_right, cell_right, laid_in}
use Rattle.record_checks.proofs.Steps.{bare_behind, licence_dead}
use Rattle.numbers.specs.Half.{cut}
use Rattle.shapes.specs.Sizes.{most_facets, most_marks}

-- the head gives these capacities, and their room fits
pub record Headed (w : List ℕ) (caps : Caps) : Type 0 where
  pub first : head_in w Magic ≡ magic
  pub marks : head_in w MarkCap ≡ caps.marks
  pub cells : head_in w CellCap ≡ caps.cells
  pub edition : head_in w Edition ≡ caps.edition
  pub marks_few : caps.marks ≤ most_capacity
  pub cells_few : caps.cells ≤ most_capacity
  pub is_edition_lem : is_edition caps.edition ≡ true
  pub fits : room caps.marks caps.cells ≤ length w

module _ (w : List ℕ) (caps : Caps) (hd : Headed w caps) (laid : laid_in w caps ≡ true) where
  pub head_passes : head_blank w caps ≡ true
  unfolding laid_in
  head_passes = and_left (head_blank w caps) _ laid

  -- a mark
  module _ (v : ℕ) (h : v < caps.marks) where
    mark_passes : mark_right w caps v ≡ true
    unfolding laid_in
    mark_passes = every_at (mark_right w caps) caps.marks (and_left (every caps.marks (mark_right w caps)) _ (and_right (head_blank w caps) _ laid)) v h

    pub mark_rests_lem : mark_blank w caps v ≡ true
    unfolding mark_right
    mark_rests_lem = and_left (mark_blank w caps v) _ mark_passes

    pub mark_chain : chain_right w caps v ≡ true
    unfolding mark_right
    mark_chain = and_right (mark_blank w caps v) _ mark_passes

  -- a cell
  module _ (c : ℕ) (h : c < caps.cells) where
    cell_passes : cell_right w caps c ≡ true
    unfolding laid_in
    cell_passes = every_at (cell_right w caps) caps.cells (and_right (every caps.marks (mark_right w caps)) _ (and_right (head_blank w caps) _ laid)) c h

    record_passes : record_right w caps c ≡ true
    unfolding cell_right
    record_passes = and_left (record_right w caps c) _ cell_passes

    -- the chain of each of its marks meets it
    pub chain_meets : (v : ℕ) → has v (marks_in w caps c) ≡ true → meets w caps c v ≡ true
    unfolding cell_right
    chain_meets v t = all_has (meets w caps c) (marks_in w caps c) (and_right (record_right w caps c) _ cell_passes) v t

    -- the tests of its record, one by one
    pub typed_passes : typed (code_in w caps c) ≡ true
    unfolding record_right
    typed_passes = and_left (typed (code_in w caps c)) _ record_passes

    behind_type : fine caps (marks_in w caps c)
        && (every most_marks (corner_right w caps c (marks_in w caps c)) && (every most_facets (facet_right w caps c (facet_count (code_in w caps c))) && rest_right w caps c)) ≡ true
    unfolding record_right
    behind_type = and_right (typed (code_in w caps c)) _ record_passes

    fine_passes : fine caps (marks_in w caps c) ≡ true
    fine_passes = and_left (fine caps (marks_in w caps c)) _ behind_type

    behind_marks : every most_marks (corner_right w caps c (marks_in w caps c)) && (every most_facets (facet_right w caps c (facet_count (code_in w caps c))) && rest_right w caps c) ≡ true
    behind_marks = and_right (fine caps (marks_in w caps c)) _ behind_type

    corner_passes : (k : ℕ) → k < most_marks → corner_right w caps c (marks_in w caps c) k ≡ true
    corner_passes k less =
        every_at (corner_right w caps c (marks_in w caps c)) most_marks (and_left (every most_marks (corner_right w caps c (marks_in w caps c))) _ behind_marks) k less

    behind_corners : every most_facets (facet_right w caps c (facet_count (code_in w caps c))) && rest_right w caps c ≡ true
    behind_corners = and_right (every most_marks (corner_right w caps c (marks_in w caps c))) _ behind_marks

    facet_passes : (f : ℕ) → f < most_facets → facet_right w caps c (facet_count (code_in w caps c)) f ≡ true
    facet_passes f less =
        every_at (facet_right w caps c (facet_count (code_in w caps c))) most_facets
        (and_left (every most_facets (facet_right w caps c (facet_count (code_in w caps c)))) _ behind_corners) f less

    rest_passes : rest_right w caps c ≡ true
    rest_passes = and_right (every most_facets (facet_right w caps c (facet_count (code_in w caps c)))) _ behind_corners

    pub cell_rests : cell_blank w caps c ≡ true
    unfolding rest_right
    cell_rests = and_left (cell_blank w caps c) _ rest_passes

    -- under a number that is not live there is no licence
    pub licence_none : code_in w caps c ≡ 0 → licence_in w caps c ≡ 0
    unfolding rest_right
    licence_none e =
        eqb-true (licence_in w caps c) 0 (licence_dead _ (code_in w caps c) _ (licence_in w caps c) refl e refl ∙ and_right (cell_blank w caps c) _ rest_passes)

    -- as many marks as the type has, each of the mesh, none twice
    pub marks_length : length (marks_in w caps c) ≡ (shape (code_in w caps c)).marks
    unfolding marks_in
    marks_length =
        part_length w (marks_at caps c (shape (code_in w caps c)).marks) (shape (code_in w caps c)).marks
        (omega (arith, marks_fit caps c (shape (code_in w caps c)).marks h (facts (code_in w caps c)).marks, hd.fits))

    pub marks_inside : (v : ℕ) → has v (marks_in w caps c) ≡ true → v < caps.marks
    unfolding fine
    marks_inside v t = go (dec_lt v caps.marks)
      where
        outside : any (leb caps.marks) (marks_in w caps c) ≡ false
        outside = not_false_true _ (and_left (not (any (leb caps.marks) (marks_in w caps c))) _ fine_passes)

        go : Dec (v < caps.marks) → v < caps.marks
        go (yes less) = less
        go (no g) = absurd (clash (le-leb caps.marks v (omega arith)) (none_has (leb caps.marks) (marks_in w caps c) outside v t))

    pub marks_once : repeats (marks_in w caps c) ≡ false
    unfolding fine
    marks_once = not_false_true _ (and_right (not (any (leb caps.marks) (marks_in w caps c))) _ fine_passes)

    -- the corners: the mark in either part, and no link behind the marks
    pub near_word : (k : ℕ) → k < near_marks → read w caps (InCell c (Near k)) ≡ get_or (marks_in w caps c) k 0
    unfolding corner_right
    near_word k less =
        sym (corner_near w caps c k less)
        ∙ eqb-true (corner_in w caps c k) (get_or (marks_in w caps c) k 0)
        (and_left (eqb (corner_in w caps c k) (get_or (marks_in w caps c) k 0)) _ (corner_passes k (omega arith)))

    behind_near : (k : ℕ) → k < most_marks
        → eqb (read w caps (InCell c (Far k))) (far_mark (marks_in w caps c) k) && bare (length (marks_in w caps c)) k (read w caps (InCell c (Link k))) ≡ true
    unfolding corner_right
    behind_near k less = and_right (eqb (corner_in w caps c k) (get_or (marks_in w caps c) k 0)) _ (corner_passes k less)

    pub far_word : (k : ℕ) → k < most_marks → read w caps (InCell c (Far k)) ≡ far_mark (marks_in w caps c) k
    far_word k less =
        eqb-true (read w caps (InCell c (Far k))) (far_mark (marks_in w caps c) k)
        (and_left (eqb (read w caps (InCell c (Far k))) (far_mark (marks_in w caps c) k)) _ (behind_near k less))

    pub behind_links : (k : ℕ) → length (marks_in w caps c) ≤ k → k < most_marks → read w caps (InCell c (Link k)) ≡ 0
    behind_links k low less =
        eqb-true (read w caps (InCell c (Link k))) 0
        (sym (bare_behind (length (marks_in w caps c)) k (read w caps (InCell c (Link k))) low)
        ∙ and_right (eqb (read w caps (InCell c (Far k))) (far_mark (marks_in w caps c) k)) _ (behind_near k less))

    -- no sibling stands behind the facets
    pub behind_facets : (f : ℕ) → facet_count (code_in w caps c) ≤ f → f < most_facets → read w caps (InCell c (Sib f)) ≡ 0
    unfolding facet_right
    behind_facets f low less =
        let same : cut c ≡ c = omega (arith, hd.cells_few) in
        eqb-true (read w caps (InCell c (Sib f))) 0
        (sym (bare_behind (facet_count (code_in w caps c)) f (read w caps (InCell c (Sib f))) low) ∙ rw same at (facet_passes f less))
