-- Stars, groups of stars and anchors.
use mathlib.Core.Path.{◌≡◌, sym, ap, ◌∙◌}
use mathlib.Core.Bool.{true, false}
use mathlib.Core.List.{List, [], map}
use mathlib.Core.Logic.{⊎_elim}
use Prim.Native.Nat.{ℕ, ◌+◌, ◌*◌, ◌/◌, ◌%◌, ◌<◌, ◌≤◌}
use native.Mathlib.Omega.{arith}
use borrow.Author.Tests.{eq-eqb, eqb-true, lt-ltb}
use lib.Dec.{eqb}
use lib.ListN.{length, get_or, length-map, get_or-map}
use Rattle.lists.specs.Lists.{has, same_set, keep, first}
use Rattle.lists.specs.Ascending.{Ascending}
use Rattle.lists.proofs.Bools.{clash, and_left, and_right, and_both}
use Rattle.lists.proofs.Members.{any_at, at_any, has_at, first_has}
use Rattle.lists.proofs.Sets.{same_sym, same_has}
use Rattle.lists.proofs.Select.{select_in, select_out}
use Rattle.lists.proofs.Order.{select_ascends, keep_ascends, first_least}
use Rattle.shapes.specs.Shapes.{shape}
use Rattle.shapes.proofs.Facts.{facts}
use Rattle.map.specs.Cells.{Map, dimension_at, holds, facets_at}
use Rattle.map.specs.Sound.{Fitting}
use Rattle.map.specs.Siblings.{is_half, marks_of, border}
use Rattle.map.specs.Stars.{star, linked, group, halves_at, anchor, anchors}
use Rattle.lists.proofs.Keep.{keep_in, keep_out, first_either, map_has}
use Rattle.laws.proofs.Groups.{group_self}
use Rattle.shapes.specs.Sizes.{no_facet}

module _ (m : Map) where
  -- linked cells: a facet of each, with one set of marks, that holds the mark
  pub linked_facets : (v a b : ℕ) → linked m v a b ≡ true
      → (f : ℕ) × (f < length (facets_at m a)) × (has v (get_or (facets_at m a) f []) ≡ true)
      × ((g : ℕ) × (g < length (facets_at m b)) × (same_set (get_or (facets_at m a) f []) (get_or (facets_at m b) g []) ≡ true))
  unfolding linked
  linked_facets v a b e =
      let r = any_at _ (facets_at m a) [] e in
      (r.0, r.1, and_left (has v (get_or (facets_at m a) r.0 [])) _ r.2, any_at _ (facets_at m b) [] (and_right (has v (get_or (facets_at m a) r.0 [])) _ r.2))

  pub facets_linked : (v a b f g : ℕ) → f < length (facets_at m a) → has v (get_or (facets_at m a) f []) ≡ true → g < length (facets_at m b)
      → same_set (get_or (facets_at m a) f []) (get_or (facets_at m b) g []) ≡ true → linked m v a b ≡ true
  unfolding linked
  facets_linked v a b f g l h k same = at_any _ (facets_at m a) [] f l (and_both _ _ h (at_any _ (facets_at m b) [] g k same))

  -- and so both ways
  pub linked_back : (v a b : ℕ) → linked m v a b ≡ true → linked m v b a ≡ true
  linked_back v a b e =
      let r = linked_facets v a b e in
      let q = r.3 in
      facets_linked v b a q.0 r.0 q.1 (sym (same_has _ _ q.2 v) ∙ r.2) r.1 (same_sym _ _ q.2)

  -- each facet of a cell has its half-facet, with the marks of the facet
  pub half_facet : (c f : ℕ) → f < length (facets_at m c)
      → ((8 * c + f) / 8 ≡ c) × (is_half m (8 * c + f) ≡ true) × (marks_of m (8 * c + f) ≡ get_or (facets_at m c) f []) × (f < no_facet)
  unfolding is_half marks_of facets_at
  half_facet c f l =
      let few : f < no_facet = omega (arith, (facts (m.at c).code).facets, simp length-map at l) in
      let cell : (8 * c + f) / 8 ≡ c = omega arith in
      let local : (8 * c + f) % 8 ≡ f = omega arith in
      (cell, rw (cell, local) (lt-ltb f _ l), rw (cell, local), few)

  -- the mark at each place of a facet is a mark of the facet
  pub facet_mark : (c f place : ℕ) → has place (get_or (shape (m.at c).code).facets f []) ≡ true
      → has (get_or (m.at c).marks place 0) (get_or (facets_at m c) f []) ≡ true
  unfolding facets_at
  facet_mark c f place e =
      let mark : ℕ → ℕ = λ p. get_or (m.at c).marks p 0 in
      ap (has (mark place)) (get_or-map (map mark) (shape (m.at c).code).facets f []) ∙ map_has mark _ place e

  -- a cell has a half-facet at each mark that it holds
  pub corner_half : Fitting m → (v c : ℕ) → holds m v c ≡ true → c < m.caps.cells
      → (h : ℕ) × (h / 8 ≡ c) × (is_half m h ≡ true) × (has v (marks_of m h) ≡ true) × (h < 8 * m.caps.cells)
  unfolding holds facets_at
  corner_half fit v c e l =
      let place = has_at v (m.at c).marks e in
      let facet = any_at _ (shape (m.at c).code).facets [] ((facts (m.at c).code).corner place.0 (rw (← fit.count c) place.1)) in
      let half = half_facet c facet.0 (simp length-map facet.1) in (
        8 * c + facet.0,
        half.0,
        half.1,
        rw half.2 (rw place.2 at (facet_mark c facet.0 place.0 facet.2)),
        omega (arith, half.3),
      )

module _ (m : Map) (d v : ℕ) where
  -- each cell of a star has its dimension and holds its mark
  pub star_has : (c : ℕ) → has c (star m d v) ≡ true → (c < m.caps.cells) × (dimension_at m c ≡ d) × (holds m v c ≡ true)
  unfolding star
  star_has c e = let r = select_out _ _ c e in (r.0, eqb-true _ d (and_left _ _ r.1), and_right (eqb (dimension_at m c) d) _ r.1)

  -- each cell that has the dimension and holds the mark is in the star
  pub has_star : (c : ℕ) → c < m.caps.cells → dimension_at m c ≡ d → holds m v c ≡ true → has c (star m d v) ≡ true
  unfolding star
  has_star c l e h = select_in _ _ c l (and_both _ _ (eq-eqb _ d e) h)

  -- a star ascends
  pub star_ascends : Ascending (star m d v)
  unfolding star
  star_ascends = select_ascends _ m.caps.cells

  -- a cell of a star is in its own group
  pub group_of_star : (c : ℕ) → has c (star m d v) ≡ true → has c (group m d v c) ≡ true
  unfolding group
  group_of_star c e = group_self (linked m v) (star m d v) c e

module _ (m : Map) (v : ℕ) (g : List ℕ) where
  -- of a group's half-facets that hold the mark each is a half-facet of a cell of the group and holds the mark
  pub halves_has : (h : ℕ) → has h (halves_at m v g) ≡ true
      → (h < 8 * m.caps.cells) × (has (h / 8) g ≡ true) × (is_half m h ≡ true) × (has v (marks_of m h) ≡ true)
  unfolding halves_at
  halves_has h e =
      let r = select_out _ _ h e in
      let q = and_right (has (h / 8) g) _ r.1 in
      (r.0, and_left _ _ r.1, and_left _ _ q, and_right (is_half m h) _ q)

  -- each half-facet of a cell of the group that holds the mark is one of them
  pub has_halves : (h : ℕ) → h < 8 * m.caps.cells → has (h / 8) g ≡ true → is_half m h ≡ true → has v (marks_of m h) ≡ true
      → has h (halves_at m v g) ≡ true
  unfolding halves_at
  has_halves h l e i k = select_in _ _ h l (and_both _ _ e (and_both _ _ i k))

  -- they ascend
  pub halves_ascend : Ascending (halves_at m v g)
  unfolding halves_at
  halves_ascend = select_ascends _ (8 * m.caps.cells)

  -- where there is one, the anchor of the group is one of them
  pub anchor_in : (k : ℕ) → has k (halves_at m v g) ≡ true → has (anchor m v g) (halves_at m v g) ≡ true
  unfolding anchor
  anchor_in k e =
      ⊎_elim (λ q. rw q (first_has 0 (halves_at m v g) k e)) (λ h. (keep_out (border m) _ _ h).1)
      (first_either (first 0 (halves_at m v g)) (keep (border m) (halves_at m v g)))

  -- where one is a border, the anchor is the smallest border
  pub anchor_border : (k : ℕ) → has k (halves_at m v g) ≡ true → border m k ≡ true → (border m (anchor m v g) ≡ true) × (anchor m v g ≤ k)
  unfolding anchor
  anchor_border k e b =
      let kept = keep_in (border m) (halves_at m v g) k b e in (
        (keep_out (border m) (halves_at m v g) _ (first_has _ _ k kept)).0,
        first_least _ _ (keep_ascends (border m) (halves_at m v g) halves_ascend) k kept,
      )

  -- where none is a border, the anchor is the smallest
  pub anchor_least : ((k : ℕ) → has k (halves_at m v g) ≡ true → border m k ≡ false)
      → (k : ℕ) → has k (halves_at m v g) ≡ true → anchor m v g ≤ k
  unfolding anchor
  anchor_least none k e =
      ⊎_elim (λ q. rw q (first_least 0 (halves_at m v g) halves_ascend k e))
      (λ h. let r = keep_out (border m) _ _ h in absurd (clash r.0 (none _ r.1)))
      (first_either (first 0 (halves_at m v g)) (keep (border m) (halves_at m v g)))

module _ (m : Map) (d v : ℕ) where
  -- each in the list is the anchor of the group of its cell, a cell of the star
  pub anchors_of : (h : ℕ) → has h (anchors m d v) ≡ true → (has (h / 8) (star m d v) ≡ true) × (h ≡ anchor m v (group m d v (h / 8)))
  unfolding anchors
  anchors_of h e = let r = select_out _ _ h e in (and_left _ _ r.1, eqb-true h _ (and_right (has (h / 8) (star m d v)) _ r.1))

  -- each group has only one anchor in the list
  pub anchors_one : (h k : ℕ) → has h (anchors m d v) ≡ true → has k (anchors m d v) ≡ true
      → group m d v (h / 8) ≡ group m d v (k / 8) → h ≡ k
  anchors_one h k e f q = (anchors_of h e).1 ∙ (ap (anchor m v) q ∙ sym (anchors_of k f).1)

  -- the list of anchors ascends
  pub anchors_ascend : Ascending (anchors m d v)
  unfolding anchors
  anchors_ascend = select_ascends _ (8 * m.caps.cells)
