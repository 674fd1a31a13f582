-- The picture of a state that stands upright is laid out; so well-formed memory is.
use mathlib.Core.Path.{◌≡◌, refl, sym, ap, ◌∙◌}
use mathlib.Core.Bool.{Bool, true, false, not, ◌||◌}
use mathlib.Core.List.{List}
use Prim.Native.Nat.{ℕ, ◌+◌, ◌*◌, ◌/◌, ◌%◌, ◌<◌, ◌≤◌}
use native.Mathlib.Decide.{dec_lt}
use native.Mathlib.Omega.{arith}
use borrow.Author.Tests.{eq-eqb, lt-ltb, le-ltb, lt-leb}
use lib.Dec.{eqb, leb, ltb}
use lib.ListN.{get_or, length}
use Rattle.lists.specs.Lists.{any, every}
use Rattle.lists.proofs.Bools.{and_both, not_of_false}
use Rattle.lists.proofs.Members.{has_all}
use Rattle.lists.proofs.Counts.{has_none}
use Rattle.lists.proofs.Every.{at_every}
use Rattle.shapes.specs.Shapes.{shape, facet_count}
use Rattle.shapes.proofs.Facts.{facts}
use Rattle.numbers.specs.declared.Caps.{Caps}
use Rattle.store.specs.Fields.{HeadRest, MarkRest, Sib, Link, Far, CellRest}
use Rattle.store.specs.Slots.{InHead, InMark, InCell, read, code_in, licence_in, corner_in}
use Rattle.store.specs.Rests.{head_blank, mark_blank, cell_blank}
use Rattle.store.proofs.Rests.{rest_head, rest_mark, rest_cell}
use Rattle.map.specs.Cells.{Body, Map, no_cell, live, holds, dimension_at, facets_at}
use Rattle.map.specs.Siblings.{is_half}
use Rattle.map.specs.Ways.{way_number}
use Rattle.laws.proofs.Facets.{facets_count}
use Rattle.picture.specs.State.{State, map_with, state_of}
use Rattle.picture.specs.Picture.{corner, link_word, head_word, mark_word, sib_word, cell_word, word_of, Pic, Wf}
use Rattle.picture.proofs.Record.{code_read, licence_read, corner_read, marks_read}
use Rattle.picture.proofs.Settles.{wf_pic, wf_settled}
use Rattle.facet.specs.Facet.{marks_in}
use Rattle.record_checks.specs.Laid.{typed, fine, bare, far_mark, corner_right, facet_right, licence_right, rest_right, record_right, meets, mark_right, cell_right, laid_in}
use Rattle.record_checks.specs.Upright.{Upright}
use Rattle.record_checks.proofs.Steps.{bare_before, bare_behind}
use Rattle.record_checks.proofs.Chains.{right_chain, right_meets}
use Rattle.record_checks.proofs.Uprights.{upright_linked, ready_upright}
use Rattle.numbers.specs.Half.{cut}
use Rattle.shapes.specs.Sizes.{most_facets, most_marks}

-- the marks of a cell by the records, on the picture of a state
pub marks_is : (w : List ℕ) (caps : Caps) (s : State) → Pic w caps s → (c : ℕ) → c < caps.cells → length (s.at c).marks ≡ (shape (s.at c).code).marks
    → marks_in w caps c ≡ (s.at c).marks
unfolding marks_in
marks_is w caps s p c h fits = rw (code_read w caps s p c h, ← fits) (marks_read w caps s p c h (omega (arith, fits, (facts (s.at c).code).marks)))

module _ (w : List ℕ) (caps : Caps) (s : State) (p : Pic w caps s) (u : Upright caps s)
    (sibs : (c f : ℕ) → facet_count (s.at c).code ≤ f → f < most_facets → sib_word s (8 * c + f) ≡ 0) where
  told : (c : ℕ) → c < caps.cells → (s.at c).marks ≡ marks_in w caps c
  told c h = sym (marks_is w caps s p c h (u.fitting c))

  right_head : head_blank w caps ≡ true
  unfolding word_of head_word
  right_head = rest_head w caps (λ k fits. p.words (InHead (HeadRest k)) fits)

  -- a mark
  right_mark : (v : ℕ) → v < caps.marks → mark_right w caps v ≡ true
  unfolding mark_right word_of mark_word
  right_mark v h =
      and_both (mark_blank w caps v) _ (rest_mark w caps v (λ k fits. p.words (InMark v (MarkRest k)) (h, fits)))
      (right_chain w caps v s p (upright_linked caps s u) h told)

  -- a cell
  module _ (c : ℕ) (h : c < caps.cells) where
    right_typed : typed (code_in w caps c) ≡ true
    unfolding typed live dimension_at map_with
    right_typed = rw (code_read w caps s p c h) (go (eqb (s.at c).code 0) refl)
      where
        go : (b : Bool) → eqb (s.at c).code 0 ≡ b → b || ltb 0 (shape (s.at c).code).dimension ≡ true
        go true q = refl
        go false q = lt-ltb 0 (shape (s.at c).code).dimension (u.typed c (ap not q))

    right_fine : fine caps (s.at c).marks ≡ true
    unfolding fine holds map_with
    right_fine =
        and_both (not (any (leb caps.marks) (s.at c).marks)) _
        (not_of_false _ (has_none (leb caps.marks) (s.at c).marks (λ v t. lt-leb caps.marks v (u.inside v c t))))
        (not_of_false _ (u.distinct c))

    right_link : (k : ℕ) → k < most_marks → bare (length (s.at c).marks) k (read w caps (InCell c (Link k))) ≡ true
    unfolding word_of cell_word link_word
    right_link k less = go (dec_lt k (length (s.at c).marks))
      where
        go : Dec (k < length (s.at c).marks) → bare (length (s.at c).marks) k (read w caps (InCell c (Link k))) ≡ true
        go (yes a) = bare_before (length (s.at c).marks) k (read w caps (InCell c (Link k))) a
        go (no a) =
            bare_behind (length (s.at c).marks) k (read w caps (InCell c (Link k))) (omega arith)
            ∙ eq-eqb (read w caps (InCell c (Link k))) 0
            (p.words (InCell c (Link k)) (h, less) ∙ rw (le-ltb k (length (s.at c).marks) (omega arith)))

    right_corner : (k : ℕ) → k < most_marks → corner_right w caps c (s.at c).marks k ≡ true
    unfolding corner_right far_mark word_of cell_word corner
    right_corner k less =
        and_both (eqb (corner_in w caps c k) (get_or (s.at c).marks k 0)) _
        (eq-eqb (corner_in w caps c k) (get_or (s.at c).marks k 0) (corner_read w caps s p c h k less))
        (and_both (eqb (read w caps (InCell c (Far k))) (far_mark (s.at c).marks k)) _
        (eq-eqb (read w caps (InCell c (Far k))) (far_mark (s.at c).marks k) (p.words (InCell c (Far k)) (h, less)))
        (right_link k less))

    right_facet : (f : ℕ) → f < most_facets → facet_right w caps c (facet_count (s.at c).code) f ≡ true
    unfolding facet_right word_of cell_word
    right_facet f less = let same : cut c ≡ c = omega (arith, p.cells) in rw same (go (dec_lt f (facet_count (s.at c).code)))
      where
        go : Dec (f < facet_count (s.at c).code) → bare (facet_count (s.at c).code) f (read w caps (InCell c (Sib f))) ≡ true
        go (yes a) = bare_before (facet_count (s.at c).code) f (read w caps (InCell c (Sib f))) a
        go (no a) =
            bare_behind (facet_count (s.at c).code) f (read w caps (InCell c (Sib f))) (omega arith)
            ∙ eq-eqb (read w caps (InCell c (Sib f))) 0 (p.words (InCell c (Sib f)) (h, less) ∙ sibs c f (omega arith) less)

    right_licence : licence_right (code_in w caps c) (licence_in w caps c) ≡ true
    unfolding licence_right live map_with no_cell
    right_licence = rw (code_read w caps s p c h, licence_read w caps s p c h) (go (eqb (s.at c).code 0) refl)
      where
        go : (b : Bool) → eqb (s.at c).code 0 ≡ b → not b || eqb (s.at c).licence 0 ≡ true
        go true q = eq-eqb (s.at c).licence 0 (ap (λ (b : Body). b.licence) (u.dead c (ap not q)))
        go false q = refl

    right_rest : rest_right w caps c ≡ true
    unfolding rest_right word_of cell_word
    right_rest =
        and_both (cell_blank w caps c) _ (rest_cell w caps c (λ q fits. p.words (InCell c (CellRest q)) (h, fits))) right_licence

    right_record : record_right w caps c ≡ true
    unfolding record_right word_of cell_word
    right_record =
        and_both (typed (code_in w caps c)) _ right_typed
        (rw (← told c h, code_read w caps s p c h)
        (and_both (fine caps (s.at c).marks) _ right_fine
        (and_both (every most_marks (corner_right w caps c (s.at c).marks)) _ (at_every (corner_right w caps c (s.at c).marks) most_marks right_corner)
        (and_both (every most_facets (facet_right w caps c (facet_count (s.at c).code))) _
        (at_every (facet_right w caps c (facet_count (s.at c).code)) most_facets right_facet)
        right_rest))))

    right_cell : cell_right w caps c ≡ true
    unfolding cell_right holds map_with
    right_cell =
        and_both (record_right w caps c) _ right_record
        (rw (← told c h)
        (has_all (meets w caps c) (s.at c).marks
        (λ v t. right_meets w caps v s p (upright_linked caps s u) (u.inside v c t) told c h (u.chains v c ∙ t))))

  pub pic_laid : laid_in w caps ≡ true
  unfolding laid_in
  pic_laid =
      and_both (head_blank w caps) _ right_head
      (and_both (every caps.marks (mark_right w caps)) _ (at_every (mark_right w caps) caps.marks right_mark)
      (at_every (cell_right w caps) caps.cells right_cell))

-- behind the facets of a cell there is no half-facet, so no sibling
facet_none : (m : Map) (c f : ℕ) → facet_count (m.at c).code ≤ f → f < most_facets → sib_word (state_of m) (8 * c + f) ≡ 0
unfolding state_of is_half facet_count way_number
facet_none m c f low less =
    let a : (8 * c + f) / 8 ≡ c = omega arith in
    let b : (8 * c + f) % 8 ≡ f = omega arith in
    rw (a, b, le-ltb f (length (facets_at m c)) (omega (arith, facets_count m c)))

pub wf_laid : (w : List ℕ) (caps : Caps) (m : Map) → m.caps ≡ caps → Wf w m → laid_in w caps ≡ true
unfolding state_of
wf_laid w caps m e wf =
    pic_laid w caps (state_of m) (wf_pic w caps m e wf) (ready_upright caps (state_of m) (wf_settled w caps m e wf).ready) (facet_none m)
