-- What a record tells on the picture of a state.
use mathlib.Core.Path.{◌≡◌, sym, ap, ◌∙◌}
use mathlib.Core.Bool.{cond}
use mathlib.Core.List.{List}
use Prim.Native.Nat.{ℕ, ◌+◌, ◌/◌, ◌%◌, ◌<◌, ◌≤◌}
use native.Mathlib.Decide.{dec_lt}
use native.Mathlib.Omega.{arith}
use borrow.Author.Tests.{lt-ltb, le-ltb}
use lib.Dec.{ltb}
use lib.ListN.{get_or, length, get_or-eq_default}
use Rattle.words.specs.Words.{part_of}
use Rattle.words.proofs.Fits.{part_is}
use Rattle.numbers.specs.declared.Caps.{Caps}
use Rattle.store.specs.Layout.{near_marks}
use Rattle.store.specs.Fields.{Count, Anchor, Code, Licence, Near, Sib, Far}
use Rattle.store.specs.Slots.{InHead, InMark, InCell, read, code_in, licence_in, corner_in, marks_at, sibling_in, way_in}
use Rattle.map.specs.Ways.{way_at}
use Rattle.store.proofs.Ways.{packed_sibling, packed_way}
use Rattle.store.proofs.Marks.{corner_near, corner_far, marks_fit, mark_near, mark_far}
use Rattle.picture.specs.State.{State}
use Rattle.picture.specs.Picture.{Pic, corner, head_word, mark_word, sib_word, cell_word, word_of}
use Rattle.shapes.specs.Sizes.{most_code, most_facets, most_marks}

-- beyond its marks a cell with at most four has none in its second part
far_mark_lem : (l : List ℕ) (k : ℕ) → near_marks ≤ k → cond (ltb near_marks (length l)) (get_or l k 0) 0 ≡ get_or l k 0
far_mark_lem l k h = go (dec_lt near_marks (length l))
  where
    go : Dec (near_marks < length l) → cond (ltb near_marks (length l)) (get_or l k 0) 0 ≡ get_or l k 0
    go (yes m) = rw (lt-ltb near_marks (length l) m)
    go (no n) = rw (le-ltb near_marks (length l) (omega arith)) (sym (get_or-eq_default l 0 {n = k} (omega arith)))

module _ (w : List ℕ) (caps : Caps) (s : State) (p : Pic w caps s) where
  pub count_read : (t : ℕ) → 1 ≤ t → t ≤ most_code → read w caps (InHead (Count t)) ≡ s.count t
  unfolding word_of head_word
  count_read t a b = p.words (InHead (Count t)) (a, b)

  pub anchor_read : (d v : ℕ) → v < caps.marks → 1 ≤ d → d ≤ 3 → read w caps (InMark v (Anchor d)) ≡ s.anc d v
  unfolding word_of mark_word
  anchor_read d v h a b = p.words (InMark v (Anchor d)) (h, (a, b))

  module _ (h : ℕ) (l : h / 8 < caps.cells) (f : h % 8 < most_facets) where
    pub word_read : read w caps (InCell (h / 8) (Sib (h % 8))) ≡ sib_word s h
    unfolding word_of cell_word
    word_read = p.words (InCell (h / 8) (Sib (h % 8))) (l, f) ∙ ap (sib_word s) (omega arith)

    pub sib_read : sibling_in w caps h ≡ s.sib h
    sib_read = ap (λ (n : ℕ). n / 4) word_read ∙ packed_sibling (s.sib h) (s.way h)

    pub way_read : way_in w caps h ≡ s.way h
    way_read = ap (λ (n : ℕ). way_at (n % 4)) word_read ∙ packed_way (s.sib h) (s.way h)

  module _ (c : ℕ) (h : c < caps.cells) where
    pub code_read : code_in w caps c ≡ (s.at c).code
    unfolding word_of cell_word
    code_read = p.words (InCell c Code) (h, omega arith)

    pub licence_read : licence_in w caps c ≡ (s.at c).licence
    unfolding word_of cell_word
    licence_read = p.words (InCell c Licence) (h, omega arith)

    pub corner_read : (k : ℕ) → k < most_marks → corner_in w caps c k ≡ get_or (s.at c).marks k 0
    unfolding word_of cell_word corner
    corner_read k l = go (dec_lt k near_marks)
      where
        go : Dec (k < near_marks) → corner_in w caps c k ≡ get_or (s.at c).marks k 0
        go (yes n) = corner_near w caps c k n ∙ p.words (InCell c (Near k)) (h, n)
        go (no f) = corner_far w caps c k (omega arith) ∙ (p.words (InCell c (Far k)) (h, l) ∙ far_mark_lem (s.at c).marks k (omega arith))

    -- the marks of a cell stand side by side
    pub marks_read : length (s.at c).marks ≤ most_marks → part_of w (marks_at caps c (length (s.at c).marks)) (length (s.at c).marks) ≡ (s.at c).marks
    unfolding word_of cell_word corner
    marks_read few =
        part_is w (marks_at caps c (length marks)) marks (omega (arith, marks_fit caps c (length marks) h few, p.fits))
        (λ k l. go k l (dec_lt near_marks (length marks)))
      where
        marks : List ℕ
        marks = (s.at c).marks

        go : (k : ℕ) → k < length marks → Dec (near_marks < length marks) → get_or w (marks_at caps c (length marks) + k) 0 ≡ get_or marks k 0
        go k l (yes m) =
            mark_far caps c (length marks) w k m
            ∙ (p.words (InCell c (Far k)) (h, omega (arith, few)) ∙ rw (lt-ltb near_marks (length marks) m))
        go k l (no f) = mark_near caps c (length marks) w k (omega arith) ∙ p.words (InCell c (Near k)) (h, omega arith)
