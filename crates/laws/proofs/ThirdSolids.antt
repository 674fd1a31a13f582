-- A third solid on a face, by its sharers and by the solids on it.
use mathlib.Core.Path.{◌≡◌, refl, sym, ap, ◌∙◌}
use mathlib.Core.Bool.{Bool, true, false, ◌&&◌}
use mathlib.Core.List.{List, []}
use Prim.Native.Nat.{ℕ, ◌/◌, ◌<◌}
use borrow.Author.Tests.{eqb-true}
use lib.Dec.{eqb, leb}
use lib.ListN.{length, get_or, length-map}
use Rattle.lists.specs.Lists.{has, any, repeats}
use Rattle.lists.proofs.Bools.{same_test}
use Rattle.lists.proofs.Members.{any_at, at_any}
use Rattle.lists.proofs.Sets.{same_sym, same_trans, has_same}
use Rattle.lists.proofs.Sized.{same_size, map_once}
use Rattle.numbers.specs.Editions.{second_edition}
use Rattle.shapes.specs.Shapes.{shape}
use Rattle.shapes.specs.Facts.{dimension_of}
use Rattle.map.specs.Cells.{Body, Map, dimension_at, sets_of, facets_at}
use Rattle.map.specs.Siblings.{sharers}
use Rattle.map.specs.Answers.{third}
use Rattle.map.specs.Sound.{Sound, solids_on}
use Rattle.laws.proofs.Sharers.{sharers_has}
use Rattle.laws.proofs.Facets.{same_half, facet_size, facet_once}
use Rattle.laws.proofs.Solids.{sharers_once, part, cell, solids_cells, solids_once, cells_solids}

module _ (m : Map) (face : List ℕ) (o : Sound m) (r : repeats face ≡ false) (solid : dimension_of (length face) ≡ 3) where
  -- "a third solid on a face": a face has as many sharers as there are solids on it
  pub solids_count : length (sharers m face) ≡ length (solids_on m face)
  solids_count =
      sym (length-map (sharers m face) cell)
      ∙ same_size _ _ (map_once cell (sharers m face) (sharers_once m face) one) (solids_once m face)
      (has_same _ _ (λ c. same_test _ _ (cells_solids m face o r solid c) (solids_cells m face c)))
    where
      one : (h k : ℕ) → has h (sharers m face) ≡ true → has k (sharers m face) ≡ true → h / 8 ≡ k / 8 → h ≡ k
      one h k a b z =
          let x = sharers_has m face h a in
          let y = sharers_has m face k b in
          same_half m o h k x.0 y.0 z (same_trans _ face _ (same_sym face _ x.1) y.1)

-- a third solid is one with a face on which two solids are already
pub third_solids : (m : Map) → Sound m → (x : Body) → length x.marks ≡ (shape x.code).marks → repeats x.marks ≡ false
    → third m x
    ≡ (eqb m.caps.edition second_edition
    && (eqb (shape x.code).dimension 3 && any (λ (face : List ℕ). leb 2 (length (solids_on m face))) (sets_of x.code x.marks)))
unfolding third facets_at dimension_at
third_solids m o x fit r = ap (λ (t : Bool). eqb m.caps.edition second_edition && t) (go (eqb (shape x.code).dimension 3) refl)
  where
    faces : List (List ℕ)
    faces = sets_of x.code x.marks

    shared : List ℕ → Bool
    shared face = leb 2 (length (sharers m face))

    on : List ℕ → Bool
    on face = leb 2 (length (solids_on m face))

    count : (shape x.code).dimension ≡ 3 → (f : ℕ) → f < length faces → shared (get_or faces f []) ≡ on (get_or faces f [])
    count d f l =
        let alone : Map = part m (λ k. x) in
        ap (leb 2) (solids_count m (get_or faces f []) o (facet_once alone 0 f l fit r) (facet_size alone 0 f l ∙ d))

    go : (b : Bool) → eqb (shape x.code).dimension 3 ≡ b → b && any shared faces ≡ b && any on faces
    go false e = refl
    go true e =
        let d = eqb-true _ 3 e in
        same_test (any shared faces) (any on faces)
        (λ a. let k = any_at shared faces [] a in at_any on faces [] k.0 k.1 (sym (count d k.0 k.1) ∙ k.2))
        (λ a. let k = any_at on faces [] a in at_any shared faces [] k.0 k.1 (count d k.0 k.1 ∙ k.2))
