-- A wanted cell beside mesh memory, test by test, and beside the map.
use mathlib.Core.Path.{◌≡◌, refl, sym, ap, ◌∙◌}
use mathlib.Core.Bool.{Bool, true, false, not, ◌&&◌}
use mathlib.Core.List.{List, []}
use Prim.Native.Nat.{ℕ, ◌+◌, ◌<◌, ◌≤◌}
use native.Mathlib.Decide.{dec_lt}
use native.Mathlib.Omega.{arith}
use borrow.Author.Tests.{lt-ltb, le-ltb, eq-eqb, ne_eqb, eqb-true}
use lib.Dec.{eqb, ltb}
use lib.ListN.{length, get_or, get_or-eq_default}
use Rattle.lists.specs.Lists.{same}
use Rattle.lists.proofs.Bools.{clash, not_true_false, and_left, and_right, and_both}
use Rattle.numbers.specs.declared.Caps.{Caps}
use Rattle.shapes.specs.Shapes.{shape}
use Rattle.words.specs.Words.{part_of}
use Rattle.store.specs.Slots.{code_in, licence_in, marks_at}
use Rattle.facet.specs.Facet.{marks_in}
use Rattle.map.specs.Cells.{Body, licensed_body, Live, Map, live}
use Rattle.laws.proofs.Ways.{same_is, is_same}
use Rattle.picture.specs.Picture.{Wf}
use Rattle.checks.proofs.Rows.{cells_of_lem, code_of, licence_of, marks_in_lem}
use Rattle.wanted.specs.Wanted.{same_body, stands}
use Rattle.wanted.specs.Records.{wanted_cell, cell_at, body_at, stands_in}

-- the same type, licence and marks are the same cell
pub body_equal : (a b : Body) → same_body a b ≡ true → a ≡ b
unfolding same_body
body_equal a b e =
    let code : a.code ≡ b.code = eqb-true _ _ (and_left _ _ e) in
    let rest = and_right (eqb a.code b.code) _ e in
    let licence : a.licence ≡ b.licence = eqb-true _ _ (and_left _ _ rest) in
    let marks : a.marks ≡ b.marks = same_is _ _ (and_right (eqb a.licence b.licence) _ rest) in
    rw (code, licence, marks)

pub body_same : (a : Body) → same_body a a ≡ true
unfolding same_body
body_same a = rw (eq-eqb a.code a.code refl, eq-eqb a.licence a.licence refl, is_same a.marks a.marks refl)

-- a cell that stands is live, and is as it is wanted
pub stands_is : (m : Map) (x : Live) → stands m x ≡ true → (live m x.number ≡ true) × (m.at x.number ≡ x.body)
unfolding stands
stands_is m x e = (and_left _ _ e, body_equal _ _ (and_right (live m x.number) _ e))

pub is_stands : (m : Map) (x : Live) → live m x.number ≡ true → m.at x.number ≡ x.body → stands m x ≡ true
unfolding stands
is_stands m x l e = and_both _ _ l (rw e (body_same x.body))

-- the tests, one after another
module _ (w : List ℕ) (caps : Caps) (c t licence : ℕ) (marks : List ℕ) where
  pub stands_outside : caps.cells ≤ c → false ≡ stands_in w caps (wanted_cell c t licence marks)
  unfolding stands_in
  stands_outside h = rw (le-ltb c caps.cells h)

  module _ (h : c < caps.cells) (code : ℕ) (ec : code ≡ code_in w caps c) where
    pub stands_dead : code ≡ 0 → false ≡ stands_in w caps (wanted_cell c t licence marks)
    unfolding stands_in
    stands_dead z = let q : code_in w caps c ≡ 0 = sym ec ∙ z in rw (lt-ltb c caps.cells h, q)

    module _ (f : code ≡ 0 → ⊥) where
      pub stands_other : (code ≡ t → ⊥) → false ≡ stands_in w caps (wanted_cell c t licence marks)
      unfolding stands_in same_body
      stands_other g = rw (lt-ltb c caps.cells h, ← ec, ne_eqb code 0 f, ne_eqb code t g)

      module _ (g : code ≡ t) (held : ℕ) (el : held ≡ licence_in w caps c) where
        pub stands_licence : (held ≡ licence → ⊥) → false ≡ stands_in w caps (wanted_cell c t licence marks)
        unfolding stands_in same_body
        stands_licence n = rw (lt-ltb c caps.cells h, ← ec, ne_eqb code 0 f, eq-eqb code t g, ← el, ne_eqb held licence n)

        pub stands_marks : held ≡ licence → (l : List ℕ) → l ≡ part_of w (marks_at caps c (shape (code_in w caps c)).marks) (shape (code_in w caps c)).marks
            → (r : Bool) → r ≡ same l marks → r ≡ stands_in w caps (wanted_cell c t licence marks)
        unfolding stands_in same_body marks_in
        stands_marks n l em r er =
            er ∙ rw (lt-ltb c caps.cells h, ← em, ← ec, ne_eqb code 0 f, eq-eqb code t g, ← el, eq-eqb held licence n)

-- on well-formed memory the cell stands where it does in the map
pub stands_in_lem : (w : List ℕ) (caps : Caps) (m : Map) → m.caps ≡ caps → Wf w m → (x : Live) → stands_in w caps x ≡ stands m x
unfolding stands_in stands live marks_in
stands_in_lem w caps m e wf x = go (dec_lt x.number caps.cells)
  where
    go : Dec (x.number < caps.cells) → stands_in w caps x ≡ stands m x
    go (yes h) =
        rw (
          lt-ltb x.number caps.cells h,
          marks_in_lem caps m e w wf x.number h,
          code_of caps m e w wf x.number h,
          licence_of caps m e w wf x.number h,
        )
    go (no f) =
        let dead : live m x.number ≡ false = not_true_false _ (λ l. f (omega (arith, wf.sound.below x.number l, cells_of_lem caps m e))) in
        rw (le-ltb x.number caps.cells (omega arith)) (rw dead)

-- past the end of a list there is no cell that stands
pub stands_past : (w : List ℕ) (caps : Caps) (words : List ℕ) (at : ℕ) → length words ≤ at → false ≡ stands_in w caps (cell_at words at)
unfolding stands_in cell_at same_body
stands_past w caps words at h =
    sym (not_true_false _ (λ e.
    let live : not (eqb (code_in w caps (get_or words at 0)) 0) && same_body (body_at w caps (get_or words at 0)) (cell_at words at).body ≡ true =
    and_right (ltb (get_or words at 0) caps.cells) _ e in
    let code : eqb (code_in w caps (get_or words at 0)) (get_or words (at + 1) 0) ≡ true =
    and_left _ _ (and_right (not (eqb (code_in w caps (get_or words at 0)) 0)) _ live) in
    let none : code_in w caps (get_or words at 0) ≡ 0 = eqb-true _ _ code ∙ get_or-eq_default words 0 {n = at + 1} (omega arith) in
    clash {b = not (eqb (code_in w caps (get_or words at 0)) 0)} (and_left _ _ live) (rw none)))

-- the record at a place
pub stands_at : (w : List ℕ) (caps : Caps) (words : List ℕ) (at c t i licence j k n : ℕ) (marks : List ℕ)
    → c ≡ get_or words at 0 → t ≡ get_or words i 0 → i ≡ at + 1 → licence ≡ get_or words j 0 → j ≡ at + 2 → marks ≡ part_of words k n → k ≡ at + 3 → n ≡ (shape t).marks
    → (r : Bool) → r ≡ stands_in w caps (wanted_cell c t licence marks) → r ≡ stands_in w caps (cell_at words at)
unfolding cell_at
stands_at w caps words at c t i licence j k n marks ec et ei el ej em ek en r e = e ∙ rw (em, en, ek, el, ej, et, ei, ec)
