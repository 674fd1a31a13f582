-- The facets of a cell of a sound map.
use mathlib.Core.Path.{◌≡◌, sym, ap, ◌∙◌}
use mathlib.Core.Bool.{true, false}
use mathlib.Core.List.{List, [], map}
use Prim.Native.Nat.{ℕ, ◌/◌, ◌%◌, ◌<◌}
use native.Mathlib.Omega.{arith}
use borrow.Author.Tests.{lt-ltb, ltb-true}
use lib.ListN.{length, get_or, length-map, get_or-map}
use Rattle.lists.specs.Lists.{has, repeats, same_set}
use Rattle.lists.proofs.Bools.{same_test}
use Rattle.lists.proofs.Members.{at_has, has_at, once}
use Rattle.lists.proofs.Sets.{same_has, has_same}
use Rattle.lists.proofs.Alike.{map_at}
use Rattle.lists.proofs.Sized.{map_once, same_size}
use Rattle.numbers.specs.Half.{half_of}
use Rattle.numbers.proofs.Inverse.{half_cell, half_facet, half_below}
use Rattle.shapes.specs.Shapes.{shape}
use Rattle.shapes.specs.Facts.{facet_at, dimension_of}
use Rattle.shapes.proofs.Facts.{facts}
use Rattle.map.specs.Cells.{Map, dimension_at, holds, facets_at}
use Rattle.map.specs.Siblings.{Half, is_half, marks_of, sharers, siblings}
use Rattle.map.specs.Sound.{Sound}
use Rattle.laws.proofs.Anchors.{facet_mark}
use Rattle.laws.proofs.Sharers.{sharers_has}

-- a cell has as many facets as its type
pub facets_count : (m : Map) (c : ℕ) → length (facets_at m c) ≡ length (shape (m.at c).code).facets
unfolding facets_at
facets_count m c = length-map (shape (m.at c).code).facets (map (λ place. get_or (m.at c).marks place 0))

-- a cell of a sound map has at most one facet with a given set
module _ (m : Map) (o : Sound m) (c : ℕ) where
  facet_place : (f place : ℕ) → place < (shape (m.at c).code).marks → has (get_or (m.at c).marks place 0) (get_or (facets_at m c) f []) ≡ true
      → has place (facet_at (shape (m.at c).code) f) ≡ true
  unfolding facets_at
  facet_place f place l e =
      let mark : ℕ → ℕ = λ p. get_or (m.at c).marks p 0 in
      let ps : List ℕ = facet_at (shape (m.at c).code) f in
      let r = map_at mark ps (mark place) (sym (ap (has (mark place)) (get_or-map (map mark) (shape (m.at c).code).facets f [])) ∙ e) in
      let same : get_or ps r.0 0 ≡ place =
      once (m.at c).marks (o.distinct c) (get_or ps r.0 0) place
      (rw (o.fitting c) ((facts (m.at c).code).inside f r.0 r.1)) (rw (o.fitting c) l) r.2 in
      rw same at (at_has ps r.0 r.1)

  pub one_match : (f g : ℕ) → f < length (facets_at m c) → g < length (facets_at m c)
      → same_set (get_or (facets_at m c) f []) (get_or (facets_at m c) g []) ≡ true → f ≡ g
  one_match f g hf hg e =
      (facts t).differ f g (count f hf) (count g hg)
      (has_same (facet_at (shape t) f) (facet_at (shape t) g)
      (λ v. same_test _ _ (λ q. there f g (same_has _ _ e) v q) (λ q. there g f (λ u. sym (same_has _ _ e u)) v q)))
    where
      t : ℕ
      t = (m.at c).code

      count : (k : ℕ) → k < length (facets_at m c) → k < length (shape t).facets
      count k h = omega (arith, facets_count m c)

      below : (k v : ℕ) → has v (facet_at (shape t) k) ≡ true → v < (shape t).marks
      below k v q = let r = has_at v (facet_at (shape t) k) q in rw r.2 at ((facts t).inside k r.0 r.1)

      there : (j k : ℕ) → ((v : ℕ) → has v (get_or (facets_at m c) j []) ≡ has v (get_or (facets_at m c) k [])) → (v : ℕ)
          → has v (facet_at (shape t) j) ≡ true → has v (facet_at (shape t) k) ≡ true
      there j k same v q = facet_place k v (below j v q) (sym (same (get_or (m.at c).marks v 0)) ∙ facet_mark m c j v q)

-- each facet of a cell below the capacity is a half-facet
pub facet_half : (m : Map) (c f : ℕ) → c < m.caps.cells → f < length (facets_at m c)
    → Half m (half_of c f) × (half_of c f / 8 ≡ c) × (marks_of m (half_of c f) ≡ get_or (facets_at m c) f [])
unfolding is_half marks_of
facet_half m c f l hf =
    let few : f < 8 = omega (arith, facets_count m c, (facts (m.at c).code).facets) in
    let cell : half_of c f / 8 ≡ c = half_cell c f few in
    let facet : half_of c f % 8 ≡ f = half_facet c f few in
    (record { below = half_below c f _ few l; facet = rw (cell, facet) (lt-ltb f (length (facets_at m c)) hf) }, cell, rw (cell, facet))

-- two half-facets of one cell with one set are one
pub same_half : (m : Map) → Sound m → (h k : ℕ) → Half m h → Half m k → h / 8 ≡ k / 8
    → same_set (marks_of m h) (marks_of m k) ≡ true → h ≡ k
unfolding is_half marks_of
same_half m o h k x y z e =
    let facet : h % 8 ≡ k % 8 = one_match m o (k / 8) (h % 8) (k % 8) (ltb-true _ _ (rw z at x.facet)) (ltb-true _ _ y.facet) (rw z at e) in
    omega arith

-- a facet has a first mark
module _ (m : Map) (c f : ℕ) (hf : f < length (facets_at m c)) where
  abbrev mark : ℕ → ℕ
  mark place = get_or (m.at c).marks place 0

  abbrev ps : List ℕ
  ps = facet_at (shape (m.at c).code) f

  mapped : get_or (facets_at m c) f [] ≡ map mark ps
  unfolding facets_at
  mapped = get_or-map (map (λ place. get_or (m.at c).marks place 0)) (shape (m.at c).code).facets f []

  pub facet_some : 0 < length (get_or (facets_at m c) f [])
  facet_some = rw (mapped, length-map) ((facts (m.at c).code).some f (omega (arith, facets_count m c)))

  -- and it is one of the mesh
  pub facet_inside : Sound m → get_or (get_or (facets_at m c) f []) 0 0 < m.caps.marks
  unfolding holds
  facet_inside o =
      let v = get_or (get_or (facets_at m c) f []) 0 0 in
      let r = map_at mark ps v (ap (has v) (sym mapped) ∙ at_has (get_or (facets_at m c) f []) 0 facet_some) in
      let place = get_or ps r.0 0 in
      let less : place < length (m.at c).marks = omega (arith, o.fitting c, (facts (m.at c).code).inside f r.0 r.1) in
      o.inside v c (ap (λ (u : ℕ). has u (m.at c).marks) (sym r.2) ∙ at_has (m.at c).marks place less)

  -- "Sibling facts are proved once over the facet sizes": a facet's size tells the dimension
  pub facet_size : dimension_of (length (get_or (facets_at m c) f [])) ≡ dimension_at m c
  unfolding dimension_at
  facet_size = rw (mapped, length-map) ((facts (m.at c).code).size f (omega (arith, facets_count m c)))

  -- where the cell's marks are distinct, a facet's are
  pub facet_once : length (m.at c).marks ≡ (shape (m.at c).code).marks → repeats (m.at c).marks ≡ false
      → repeats (get_or (facets_at m c) f []) ≡ false
  facet_once fit o =
      rw mapped
      (map_once mark ps ((facts (m.at c).code).distinct f) (λ x y hx hy e. once (m.at c).marks o x y (below x hx) (below y hy) e))
    where
      below : (v : ℕ) → has v ps ≡ true → v < length (m.at c).marks
      below v q =
          let r = has_at v ps q in
          omega (arith, fit, rw r.2 at ((facts (m.at c).code).inside f r.0 r.1))

module _ (m : Map) (o : Sound m) where
  -- a sharer of a set of distinct marks is of the dimension that its size tells
  pub sharers_dimension : (set : List ℕ) → repeats set ≡ false → (k : ℕ) → has k (sharers m set) ≡ true
      → dimension_at m (k / 8) ≡ dimension_of (length set)
  unfolding marks_of is_half
  sharers_dimension set r k e =
      let both = sharers_has m set k e in
      let kf : k % 8 < length (facets_at m (k / 8)) = ltb-true _ _ both.0.facet in
      sym (facet_size m (k / 8) (k % 8) kf)
      ∙ ap dimension_of (sym (same_size _ _ r (facet_once m (k / 8) (k % 8) kf (o.fitting (k / 8)) (o.distinct (k / 8))) both.1))

  -- so a facet of a solid is never the sibling of an edge
  pub siblings_dimension : (h k : ℕ) → Half m h → has k (siblings m h) ≡ true → dimension_at m (k / 8) ≡ dimension_at m (h / 8)
  unfolding siblings marks_of is_half
  siblings_dimension h k half e =
      let hf : h % 8 < length (facets_at m (h / 8)) = ltb-true _ _ half.facet in
      sharers_dimension (marks_of m h) (facet_once m (h / 8) (h % 8) hf (o.fitting (h / 8)) (o.distinct (h / 8))) k e
      ∙ facet_size m (h / 8) (h % 8) hf
