-- Which way the sibling runs: of a half-facet that leads to itself, of a set of two, and at a cell that is left alone.
use mathlib.Core.Path.{◌≡◌, refl, sym}
use mathlib.Core.Bool.{Bool, true, false, cond}
use mathlib.Core.List.{[]}
use Prim.Native.Nat.{ℕ, ◌/◌, ◌%◌}
use borrow.Author.Tests.{eq-eqb, eqb-true, ltb-true}
use lib.Dec.{eqb}
use lib.ListN.{length}
use Rattle.lists.specs.Lists.{any, same_set, repeats, steps}
use Rattle.lists.proofs.Bools.{clash}
use Rattle.lists.proofs.Members.{at_any}
use Rattle.lists.proofs.Sized.{same_size}
use Rattle.map.specs.declared.Way.TheVariants.{Lone}
use Rattle.map.specs.Cells.{Map, facets_at}
use Rattle.map.specs.Siblings.{Half, is_half, marks_of, siblings, sibling, walk, border}
use Rattle.map.specs.Ways.{between, way}
use Rattle.map.specs.Sound.{Sound}
use Rattle.laws.proofs.Cycles.{sibling_has, sibling_live, sibling_set, walk_returns, border_self, self_border}
use Rattle.laws.proofs.Sharers.{siblings_same}
use Rattle.laws.proofs.Local.{Apart, half_other, sibling_other}
use Rattle.laws.proofs.Facets.{facet_once}
use Rattle.laws.proofs.Ways.{direction_swap}

-- a half-facet that leads to itself is lone, any other says the direction of the two
pub way_by : (m : Map) (h : ℕ) → Half m h → (x : ℕ) → x ≡ sibling m h → cond (eqb h x) Lone (between m h x) ≡ way m h
unfolding way
way_by m h y x e = rw e (go (eqb h (sibling m h)) refl (border m h) refl)
  where
    go : (p : Bool) → eqb h (sibling m h) ≡ p → (q : Bool) → border m h ≡ q
        → cond p Lone (between m h (sibling m h)) ≡ cond q Lone (between m h (sibling m h))
    go true a true b = refl
    go true a false b = absurd (clash (self_border m h y (sym (eqb-true _ _ a))) b)
    go false a true b = absurd (clash (eq-eqb h (sibling m h) (sym (border_self m h y b))) a)
    go false a false b = refl

module _ (m : Map) (o : Sound m) where
  marks_once : (h : ℕ) → Half m h → repeats (marks_of m h) ≡ false
  unfolding marks_of is_half
  marks_once h x = facet_once m (h / 8) (h % 8) (ltb-true _ _ x.facet) (o.fitting (h / 8)) (o.distinct (h / 8))

  -- in a set of two both say one word
  pub way_two : (h : ℕ) → Half m h → length (siblings m h) ≡ 2 → way m (sibling m h) ≡ way m h
  unfolding way between border walk steps
  way_two h x two =
      let k : ℕ = sibling m h in
      let sets : siblings m k ≡ siblings m h = siblings_same m h k (sibling_has m h x) in
      let back : sibling m k ≡ h = rw two at (walk_returns m h x) in
      let size = same_size (marks_of m h) (marks_of m k) (marks_once h x) (marks_once k (sibling_live m h x)) (sibling_set m h x) in
      rw (sets, back, direction_swap (h % 8) (k % 8) (marks_of m h) (marks_of m k) size)

-- a half-facet of another cell whose set no facet of the cell has, in neither map, has the same word
pub way_other : (m m' : Map) (c : ℕ) → Apart m m' c → (h : ℕ) → (h / 8 ≡ c → ⊥) → Half m h
    → any (same_set (marks_of m h)) (facets_at m c) ≡ false → any (same_set (marks_of m h)) (facets_at m' c) ≡ false → way m' h ≡ way m h
unfolding way between is_half marks_of
way_other m m' c a h n x e e' =
    let s = sibling_other m m' c a h n e e' in
    rw (s.0, s.1, (half_other m m' c a h n).1, (half_other m m' c a (sibling m h) elsewhere).1)
  where
    elsewhere : sibling m h / 8 ≡ c → ⊥
    elsewhere z =
        let y = sibling_live m h x in
        clash
        (rw z at (at_any (same_set (marks_of m h)) (facets_at m (sibling m h / 8)) [] (sibling m h % 8) (ltb-true _ _ y.facet) (sibling_set m h x)))
        e
