-- Under edition 2 every accepted edit leaves each face between two solids at most.
use mathlib.Core.Path.{◌≡◌, refl, sym, ap, ◌∙◌}
use mathlib.Core.Bool.{true, false}
use mathlib.Core.List.{List, [], ◌∷◌, map}
use mathlib.Core.Logic.{⊎_elim, ◌⊎◌, inl, inr}
use Prim.Native.Nat.{ℕ, suc, ◌/◌, ◌%◌, ◌<◌, ◌≤◌}
use native.Mathlib.Omega.{arith}
use borrow.Author.Tests.{eq-eqb, eqb-true, eqb-false, leb-true, leb-false, ltb-true}
use lib.Dec.{eqb, leb}
use lib.ListN.{length, get_or, length-map}
use Rattle.lists.specs.Lists.{has, any, repeats, same_set}
use Rattle.lists.proofs.Bools.{clash, either, not_true_false, and_left, and_right, and_both, or_left, or_right}
use Rattle.lists.proofs.Members.{any_at, at_any, at_has}
use Rattle.lists.proofs.Sets.{same_refl, same_sym, same_trans}
use Rattle.lists.proofs.Sized.{distinct_fewer, distinct_less}
use Rattle.lists.proofs.Order.{select_ascends, asc_once}
use Rattle.lists.proofs.Select.{select_in, select_out}
use Rattle.lists.proofs.Keep.{map_has}
use Rattle.lists.proofs.Alike.{map_at}
use Rattle.numbers.specs.Half.{half_of}
use Rattle.numbers.specs.Editions.{second_edition}
use Rattle.numbers.specs.declared.Caps.{Caps}
use Rattle.shapes.specs.Shapes.{shape}
use Rattle.shapes.specs.Facts.{dimension_of}
use Rattle.map.specs.Cells.{Body, Map, no_cell, map_of, body_in, dimension_at, sets_of, facets_at}
use Rattle.map.specs.Siblings.{Half, is_half, marks_of, sharers, siblings}
use Rattle.map.specs.Answers.{third}
use Rattle.map.specs.History.{empty, Edit, Insert, Remove, edit_answer, put, changed}
use Rattle.map.specs.Sound.{Sound, TwoSolids, solids_on}
use Rattle.laws.proofs.Sharers.{sharers_has, has_sharers, sharers_ascend, sharers_same}
use Rattle.laws.proofs.Halves.{none_facets, no_half_lem}
use Rattle.laws.proofs.Facets.{facet_half, same_half, sharers_dimension, siblings_dimension}
use Rattle.laws.proofs.Edits.{MayInsert, MayRemove, may_insert, may_remove, put_all, sound_insert}
use Rattle.laws.proofs.Local.{OneMore, half_other, siblings_other, more_insert}
use Rattle.laws.proofs.Counted.{sharers_less}

-- no sharer stands twice
pub sharers_once : (m : Map) (set : List ℕ) → repeats (sharers m set) ≡ false
sharers_once m set = asc_once _ (sharers_ascend m set)

module _ (m : Map) (x : Body) where
  abbrev face : ℕ → List ℕ
  face f = get_or (sets_of x.code x.marks) f []

  -- there is no third solid: under edition 2 each face of a solid has one at most
  pub room_faces : third m x ≡ false → m.caps.edition ≡ second_edition → (shape x.code).dimension ≡ 3
      → (f : ℕ) → f < length (sets_of x.code x.marks) → length (sharers m (get_or (sets_of x.code x.marks) f [])) ≤ 1
  unfolding third
  room_faces e edition solid f l = let few = leb-false 2 (length (sharers m (face f))) (not_true_false _ more) in omega arith
    where
      more : leb 2 (length (sharers m (face f))) ≡ true → ⊥
      more t =
          let some = at_any _ (sets_of x.code x.marks) [] f l t in
          clash (and_both _ _ (eq-eqb _ 2 edition) (and_both _ _ (eq-eqb _ 3 solid) some)) e

  -- where each has one at most, there is none
  pub faces_room : (m.caps.edition ≡ second_edition → (shape x.code).dimension ≡ 3
      → (f : ℕ) → f < length (sets_of x.code x.marks) → length (sharers m (get_or (sets_of x.code x.marks) f [])) ≤ 1) → third m x ≡ false
  unfolding third
  faces_room few = not_true_false _ go
    where
      go : third m x ≡ true → ⊥
      go t =
          let rest = and_right (eqb m.caps.edition 2) _ t in
          let r = any_at _ (sets_of x.code x.marks) [] (and_right (eqb (shape x.code).dimension 3) _ rest) in
          let one = few (eqb-true _ 2 (and_left _ _ t)) (eqb-true _ 3 (and_left _ _ rest)) r.0 r.1 in
          omega (arith, leb-true 2 (length (sharers m (face r.0))) r.2)

-- a map of some of the cells of m
abbrev pub part : Map → (ℕ → Body) → Map
part m at = record { caps = m.caps; at = at }

module _ (m : Map) (at : ℕ → Body) (inner : (k : ℕ) → (at k ≡ no_cell) ⊎ (at k ≡ m.at k)) where
  -- a half-facet of a part is one of the map, of the same cell
  part_half : (h : ℕ) → Half (part m at) h → Half m h × (at (h / 8) ≡ m.at (h / 8))
  unfolding is_half facets_at
  part_half h y =
      let z : at (h / 8) ≡ m.at (h / 8) =
      ⊎_elim (λ z. absurd (no_half_lem (part m at) h y.facet (none_facets (part m at) (h / 8) z))) (λ z. z) (inner (h / 8)) in
      (record { below = y.below; facet = rw z at y.facet }, z)

  -- each sharer of a set is one in the map
  part_sharers : (set : List ℕ) (k : ℕ) → has k (sharers (part m at) set) ≡ true → has k (sharers m set) ≡ true
  unfolding marks_of facets_at
  part_sharers set k e =
      let r = sharers_has (part m at) set k e in
      let y = part_half k r.0 in
      has_sharers m set k y.0 (rw y.1 at r.1)

  -- a part of a map with two solids at most has two at most
  pub two_part : TwoSolids m → TwoSolids (part m at)
  unfolding siblings dimension_at marks_of facets_at
  two_part t = record {
    most = λ e h y d.
        let r = part_half h y in
        let set : List ℕ = marks_of (part m at) h in
        omega (
          arith,
          distinct_fewer (sharers (part m at) set) (sharers m set) (sharers_once (part m at) set) (part_sharers set),
          rw (← r.1) at (t.most e h r.0 (rw (r.1, dimension_at) at d)),
        );
  }

  -- a face of a cell of the map that the part has not has a sharer less in the part
  part_less : (c f : ℕ) → at c ≡ no_cell → c < m.caps.cells → f < length (facets_at m c)
      → length (sharers (part m at) (get_or (facets_at m c) f [])) < length (sharers m (get_or (facets_at m c) f []))
  part_less c f free l hf =
      let g : ℕ = half_of c f in
      let set : List ℕ = get_or (facets_at m c) f [] in
      let y = facet_half m c f l hf in
      distinct_less (sharers (part m at) set) (sharers m set) g (sharers_once (part m at) set) (part_sharers set)
      (not_true_false _
      (λ e. no_half_lem (part m at) g (sharers_has (part m at) set g e).0.facet (none_facets (part m at) (g / 8) (rw y.1 free))))
      (has_sharers m set g y.0 (rw y.2 (same_refl set)))

  -- so the part has room for the cell
  pub part_room : TwoSolids m → (c : ℕ) → at c ≡ no_cell → c < m.caps.cells → third (part m at) (m.at c) ≡ false
  unfolding siblings dimension_at facets_at
  part_room t c free l =
      faces_room (part m at) (m.at c)
      (λ edition solid f hf. let y = facet_half m c f l hf in
      let two = t.most edition (half_of c f) y.0 (ap (dimension_at m) y.1 ∙ solid) in
      omega (arith, part_less c f free l hf, ap (λ (set : List ℕ). length (sharers m set)) y.2))

-- a formatted mesh has no solids
pub two_empty : (caps : Caps) → TwoSolids (empty caps)
unfolding empty map_of body_in
two_empty caps = record { most = λ e h y d. absurd (no_half_lem (empty caps) h y.facet (none_facets (empty caps) (h / 8) refl)) }

module _ (m : Map) (s : Sound m) (t : TwoSolids m) where
  module _ (c : ℕ) (x : Body) (r : MayInsert m c x) where
    abbrev made : Map
    made = changed m (Insert c x)

    abbrev more : OneMore m made c x
    more = more_insert m s c x r

    -- a set has one sharer more at most
    one_sharer : (g : ℕ) (set : List ℕ) → has g (sharers made set) ≡ true → g / 8 ≡ c → length (sharers made set) ≤ suc (length (sharers m set))
    unfolding has
    one_sharer g set here z =
        distinct_fewer (sharers made set) (g ∷ sharers m set) (sharers_once made set)
        (λ v e. ⊎_elim (λ q. or_left _ _ (eq-eqb g v (same v e (eqb-true (v / 8) c q))))
        (λ q. or_right (eqb g v) _ (sharers_less m made c x more set v e (eqb-false (v / 8) c q)))
        (either (eqb (v / 8) c)))
      where
        same : (v : ℕ) → has v (sharers made set) ≡ true → v / 8 ≡ c → g ≡ v
        same v e w =
            let a = sharers_has made set g here in
            let b = sharers_has made set v e in
            same_half made (sound_insert m s c x r) g v a.0 b.0 (z ∙ sym w) (same_trans _ set _ (same_sym set _ a.1) b.1)

    module _ (edition : m.caps.edition ≡ second_edition) (h : ℕ) (y : Half made h) (solid : dimension_at made (h / 8) ≡ 3) where
      abbrev set : List ℕ
      set = marks_of made h

      -- the set is that of a face of the new cell
      two_its : (f : ℕ) → f < length (facets_at made c) → same_set set (get_or (facets_at made c) f []) ≡ true → length (siblings made h) ≤ 2
      unfolding siblings dimension_at facets_at
      two_its f l e =
          let own : facets_at made c ≡ sets_of x.code x.marks = ap (λ (b : Body). sets_of b.code b.marks) more.after in
          let q = facet_half made c f (rw more.apart.caps r.number) l in
          let g : ℕ = half_of c f in
          let here : has g (siblings made h) ≡ true = has_sharers made set g q.0 (rw q.2 e) in
          let dimension : (shape x.code).dimension ≡ 3 =
          ap (λ (b : Body). (shape b.code).dimension) (sym more.after) ∙ ap (dimension_at made) (sym q.1)
          ∙ siblings_dimension made (sound_insert m s c x r) h g y here ∙ solid in
          omega (
            arith,
            one_sharer g set here q.1,
            ap length (sharers_same m set (get_or (sets_of x.code x.marks) f []) (rw own at e)),
            room_faces m x r.room edition dimension f (rw own at l),
          )

      -- it is none of theirs
      two_other : any (same_set set) (facets_at made c) ≡ false → length (siblings made h) ≤ 2
      unfolding is_half marks_of dimension_at any
      two_other e =
          let own = at_any (same_set set) (facets_at made (h / 8)) [] (h % 8) (ltb-true _ _ y.facet) (same_refl set) in
          let n : h / 8 ≡ c → ⊥ = λ z. clash (sym (ap (λ (k : ℕ). any (same_set set) (facets_at made k)) z) ∙ own) e in
          let q = half_other m made c more.apart h n in
          let none : facets_at m c ≡ [] = none_facets m c more.before in
          rw (siblings_other m made c more.apart h n (rw none) (rw q.1 at e))
          (t.most edition h (record { below = rw more.apart.caps at y.below; facet = rw q.0 at y.facet })
          (rw (more.apart.other (h / 8) n, dimension_at) at solid))

      two_more : length (siblings made h) ≤ 2
      two_more = ⊎_elim (λ e. let k = any_at (same_set set) (facets_at made c) [] e in two_its k.0 k.1 k.2) two_other (either _)

    -- an accepted insertion leaves two solids at most
    pub two_insert : TwoSolids (changed m (Insert c x))
    two_insert = record { most = λ e h y d. two_more (rw more.apart.caps at e) h y d }

  -- so does a removal
  pub two_remove : (c : ℕ) → MayRemove m c → TwoSolids (changed m (Remove c))
  unfolding changed put
  two_remove c r =
      two_part m (put m c no_cell).at (put_all m c no_cell (λ k b. (b ≡ no_cell) ⊎ (b ≡ m.at k)) (inl refl) (λ k n. inr refl)) t

  -- every accepted edit leaves two solids at most
  pub two_changed : (e : Edit) → (edit_answer m e).refusal ≡ 0 → TwoSolids (changed m e)
  two_changed (Insert c x) a = two_insert c x (may_insert m c x a)
  two_changed (Remove c) a = two_remove c (may_remove m c a)

-- the cell of a half-facet
abbrev pub cell : ℕ → ℕ
cell h = h / 8

module _ (m : Map) (face : List ℕ) where
  -- a solid on a face has a sharer of it
  solid_sharer : (c : ℕ) → has c (solids_on m face) ≡ true → (h : ℕ) × (has h (sharers m face) ≡ true) × (h / 8 ≡ c) × (dimension_at m c ≡ 3)
  unfolding solids_on
  solid_sharer c e =
      let r = select_out _ m.caps.cells c e in
      let k = any_at (same_set face) (facets_at m c) [] (and_right (eqb (dimension_at m c) 3) _ r.1) in
      let q = facet_half m c k.0 r.0 k.1 in
      (half_of c k.0, has_sharers m face _ q.0 (rw q.2 k.2), q.1, eqb-true _ 3 (and_left _ _ r.1))

  -- so among the cells of the sharers is each solid on the face
  pub solids_cells : (c : ℕ) → has c (solids_on m face) ≡ true → has c (map cell (sharers m face)) ≡ true
  solids_cells c e = let k = solid_sharer c e in rw k.2 at (map_has cell (sharers m face) k.0 k.1)

  pub solids_once : repeats (solids_on m face) ≡ false
  unfolding solids_on
  solids_once = asc_once _ (select_ascends _ m.caps.cells)

  module _ (o : Sound m) (r : repeats face ≡ false) (solid : dimension_of (length face) ≡ 3) where
    -- for a face of a solid there are no others
    pub cells_solids : (c : ℕ) → has c (map cell (sharers m face)) ≡ true → has c (solids_on m face) ≡ true
    unfolding solids_on is_half marks_of
    cells_solids c e =
        let k = map_at cell (sharers m face) c e in
        let h : ℕ = get_or (sharers m face) k.0 0 in
        let here : has h (sharers m face) ≡ true = at_has (sharers m face) k.0 k.1 in
        let y = sharers_has m face h here in
        let has-face = at_any (same_set face) (facets_at m (h / 8)) [] (h % 8) (ltb-true _ _ y.0.facet) y.1 in
        rw (← k.2)
        (select_in _ m.caps.cells (h / 8) (omega (arith, y.0.below))
        (and_both _ _ (eq-eqb _ 3 (sharers_dimension m o face r h here ∙ solid)) has-face))

-- "a face may lie between two solids at most"
pub two_solids : (m : Map) → TwoSolids m → m.caps.edition ≡ second_edition → (face : List ℕ) → length (solids_on m face) ≤ 2
unfolding siblings has
two_solids m t edition face = go (solids_on m face) refl
  where
    go : (l : List ℕ) → solids_on m face ≡ l → length l ≤ 2
    go [] e = omega arith
    go (c ∷ cs) e =
        let k = solid_sharer m face c (rw e (or_left _ _ (eq-eqb c c refl))) in
        let y = sharers_has m face k.0 k.1 in
        omega (
          arith,
          ap length e,
          distinct_fewer (solids_on m face) (map cell (sharers m face)) (solids_once m face) (solids_cells m face),
          length-map (sharers m face) cell,
          ap length (sharers_same m face _ y.1),
          t.most edition k.0 y.0 (rw k.2 k.3),
        )
