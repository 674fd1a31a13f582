-- Two maps that differ under one cell number only, where neither has a cell of dimension d: the anchors in d are the same at every mark, those
-- of the cell too. For the size of a facet tells the dimension: no half-facet of dimension d has a set that is one of the cell's.
use mathlib.Core.Path.{◌≡◌, refl, sym, ap, ◌∙◌}
use mathlib.Core.Bool.{Bool, true, false, ◌&&◌}
use mathlib.Core.List.{List, [], ◌∷◌}
use Prim.Native.Nat.{ℕ, zero, suc, ◌/◌, ◌%◌, ◌<◌, ◌≤◌}
use native.Mathlib.Omega.{arith}
use borrow.Author.Tests.{ne_eqb, ltb-true}
use lib.Dec.{eqb}
use lib.ListN.{length, get_or}
use Rattle.lists.specs.Lists.{has, any, keep, same_set}
use Rattle.lists.proofs.Bools.{not_true_false}
use Rattle.lists.proofs.Members.{any_at}
use Rattle.lists.proofs.Sized.{same_size}
use Rattle.lists.proofs.Alike.{keep_same}
use Rattle.shapes.specs.Shapes.{shape}
use Rattle.shapes.specs.Facts.{facet_at, dimension_of}
use Rattle.shapes.proofs.Facts.{facts}
use Rattle.shapes.proofs.Types.{type_marks}
use Rattle.map.specs.Cells.{Map, dimension_at, holds, facets_at}
use Rattle.map.specs.Siblings.{is_half, marks_of, border}
use Rattle.map.specs.Stars.{star, linked, group, halves_at, anchor, anchors}
use Rattle.map.specs.Sound.{Sound}
use Rattle.laws.proofs.Anchors.{star_has, halves_has}
use Rattle.laws.proofs.StarGroups.{group_in_star}
use Rattle.laws.proofs.Facets.{facet_size, facet_once}
use Rattle.laws.proofs.Local.{Apart, picked_same, half_other, halves_listed, sibling_other, linked_other, groups_same}

-- no type has another dimension than 1 to 3
size_most : (n : ℕ) → dimension_of n ≤ 3
unfolding dimension_of
size_most zero = omega arith
size_most (suc zero) = omega arith
size_most (suc (suc zero)) = omega arith
size_most (suc (suc (suc zero))) = omega arith
size_most (suc (suc (suc (suc zero)))) = omega arith
size_most (suc (suc (suc (suc (suc n))))) = omega arith

pub dimension_most : (t : ℕ) → 0 < (shape t).dimension → (shape t).dimension ≤ 3
dimension_most t some =
    let r = any_at (has 0) (shape t).facets [] ((facts t).corner 0 (type_marks t some)) in
    omega (arith, (facts t).size r.0 r.1, size_most (length (facet_at (shape t) r.0)))

-- a cell of another dimension has no facet with the set of a half-facet
module _ (m : Map) (o : Sound m) (h : ℕ) (half : is_half m h ≡ true) (k : Map) (q : Sound k) (c : ℕ) (n : dimension_at k c ≡ dimension_at m (h / 8) → ⊥) where
  sets_aside : any (same_set (marks_of m h)) (facets_at k c) ≡ false
  unfolding marks_of is_half
  sets_aside =
      not_true_false _
      (λ e. let r = any_at (same_set (marks_of m h)) (facets_at k c) [] e in
      let hf : h % 8 < length (facets_at m (h / 8)) = ltb-true _ _ half in
      let size : length (marks_of m h) ≡ length (get_or (facets_at k c) r.0 []) =
      same_size _ _ (facet_once m (h / 8) (h % 8) hf (o.fitting (h / 8)) (o.distinct (h / 8))) (facet_once k c r.0 r.1 (q.fitting c) (q.distinct c)) r.2 in
      n (sym (facet_size k c r.0 r.1) ∙ (ap dimension_of (sym size) ∙ facet_size m (h / 8) (h % 8) hf)))

module _ (m m' : Map) (c : ℕ) (a : Apart m m' c) (o : Sound m) (o' : Sound m') (d : ℕ) (n : dimension_at m c ≡ d → ⊥) (n' : dimension_at m' c ≡ d → ⊥) where
  -- a cell of the dimension is another one
  not_cell : (k : ℕ) → dimension_at m k ≡ d → k ≡ c → ⊥
  not_cell k e z = n (rw z at e)

  -- a half-facet of the dimension is a border as before
  border_aside : (h : ℕ) → is_half m h ≡ true → dimension_at m (h / 8) ≡ d → border m' h ≡ border m h
  border_aside h half e =
      (sibling_other m m' c a h (not_cell (h / 8) e) (sets_aside m o h half m o c (λ z. n (z ∙ e))) (sets_aside m o h half m' o' c (λ z. n' (z ∙ e)))).1

  module _ (v : ℕ) where
    star_aside : star m' d v ≡ star m d v
    unfolding star holds dimension_at
    star_aside =
        picked_same m m' c a (λ x. eqb (shape x.code).dimension d && has v x.marks) (rw (ne_eqb (dimension_at m c) d n, ne_eqb (dimension_at m' c) d n'))

    -- the cells of a star are of the dimension
    in_star : (x : ℕ) → has x (star m d v) ≡ true → dimension_at m x ≡ d
    in_star x e = (star_has m d v x e).1

    group_aside : (x : ℕ) → group m' d v x ≡ group m d v x
    unfolding group
    group_aside x =
        rw star_aside
        (groups_same _ _ (star m d v) (λ x y h i. linked_other m m' c a v x y (not_cell x (in_star x h)) (not_cell y (in_star y i))) x)

    module _ (g : List ℕ) (inner : (x : ℕ) → has x g ≡ true → dimension_at m x ≡ d) where
      halves_aside : halves_at m' v g ≡ halves_at m v g
      unfolding halves_at
      halves_aside = halves_listed m m' c a _ _ (λ h. go h (has (h / 8) g) refl)
        where
          go : (h : ℕ) (b : Bool) → has (h / 8) g ≡ b → b && (is_half m' h && has v (marks_of m' h)) ≡ b && (is_half m h && has v (marks_of m h))
          go h true e = let r = half_other m m' c a h (not_cell (h / 8) (inner (h / 8) e)) in rw (r.0, r.1)
          go h false e = refl

      anchor_aside : anchor m' v g ≡ anchor m v g
      unfolding anchor
      anchor_aside =
          rw
          (halves_aside, keep_same _ _ (halves_at m v g) (λ h e. let r = halves_has m v g h e in border_aside h r.2 (inner (h / 8) r.1)))

    pub anchors_aside : anchors m' d v ≡ anchors m d v
    unfolding anchors
    anchors_aside =
        halves_listed m m' c a _ _
        (λ h. rw (star_aside, group_aside (h / 8), anchor_aside (group m d v (h / 8)) (λ x e. in_star x (group_in_star m d v (h / 8) x e))))
