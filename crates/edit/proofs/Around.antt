-- One cell comes or goes: the state around it may be settled, and settled and counted it is the state of the map then.
use mathlib.Core.Path.{◌≡◌, refl, sym, ap, ◌∙◌, subst, fun_ext}
use mathlib.Core.Bool.{Bool, true, false, cond, ◌&&◌}
use mathlib.Core.List.{List, []}
use Prim.Native.Nat.{ℕ, ◌+◌, ◌*◌, ◌/◌, ◌%◌, ◌<◌, ◌≤◌}
use native.Mathlib.Decide.{ℕ_discrete}
use native.Mathlib.Omega.{arith}
use borrow.Author.Tests.{eq-eqb, ne_eqb, eqb-true, eqb-false, ltb-true, le-ltb}
use lib.Dec.{eqb}
use lib.ListN.{length}
use Rattle.lists.specs.Lists.{has, any, same_set}
use Rattle.lists.proofs.Bools.{clash, not_true_false}
use Rattle.lists.proofs.Members.{at_any}
use Rattle.lists.proofs.Sets.{same_refl}
use Rattle.shapes.specs.Sizes.{most_facets, most_code}
use Rattle.shapes.proofs.Facts.{facts}
use Rattle.shapes.specs.Shapes as S
use Rattle.shapes.specs.Shapes.{shape}
use Rattle.shapes.specs.Table.{table}
use Rattle.numbers.specs.declared.Caps.{Caps}
use Rattle.map.specs.Cells.{Body, Map, no_cell, dimension_at, holds, facets_at, cells_of}
use Rattle.map.specs.Siblings.{is_half, marks_of, sibling}
use Rattle.map.specs.declared.Way.TheVariants.{Lone}
use Rattle.map.specs.Ways.{way_number, way}
use Rattle.map.specs.Stars.{anchors}
use Rattle.map.specs.Sound.{Sound, TwoSolids}
use Rattle.laws.proofs.Local.{Apart, Free, OneMore, half_other, sibling_other, anchors_free, more_free, apart_back}
use Rattle.laws.proofs.Counted.{more_type_other}
use Rattle.laws.proofs.Halves.{none_facets, half_live}
use Rattle.laws.proofs.SiblingWays.{way_other}
use Rattle.picture.specs.State.{State, next, map_with, state_of}
use Rattle.picture.specs.Picture.{Pic, Wf, sib_word}
use Rattle.picture.specs.Changes.{with_count}
use Rattle.picture.proofs.Alike.{retold, pic_retold, state_same}
use Rattle.laws.proofs.Facets.{facets_count}
use Rattle.map.specs.Cells.{sets_of}
use Rattle.mend.specs.Settle.{among, moved, MaySettle, settled}
use Rattle.edit.specs.Edit.{with_links}
use Rattle.edit.proofs.Aside.{dimension_most, anchors_aside}

-- from m to m' a cell of type t on these marks, under the number c, comes or goes
pub record Turn (m m' : Map) (c t : ℕ) (marks : List ℕ) : Type 0 where
  pub was : Sound m
  pub sound : Sound m'
  pub apart : Apart m m' c
  pub typed : (1 ≤ (shape t).dimension) × ((shape t).dimension ≤ 3)
  pub aside : (d : ℕ) → 1 ≤ d → ((shape t).dimension ≡ d → ⊥) → (dimension_at m c ≡ d → ⊥) × (dimension_at m' c ≡ d → ⊥)
  pub count : length marks ≡ (shape t).marks
  pub inside : (v : ℕ) → has v marks ≡ true → v < m'.caps.marks
  pub free : (v : ℕ) → has v marks ≡ false → Free m m' c v
  pub facets : (p : List ℕ → Bool) → any p (sets_of t marks) ≡ false → (any p (facets_at m c) ≡ false) × (any p (facets_at m' c) ≡ false)
  pub others : (u : ℕ) → 0 < u → (u ≡ t → ⊥) → cells_of m' u ≡ cells_of m u

module _ (m m' : Map) (c : ℕ) (x : Body) (r : OneMore m m' c x) where
  -- the cell that is more has the facets, the other map none there
  more_facets : (p : List ℕ → Bool) → any p (sets_of x.code x.marks) ≡ false
      → (any p (facets_at m c) ≡ false) × (any p (facets_at m' c) ≡ false)
  unfolding any facets_at
  more_facets p e = (rw (none_facets m c r.before), rw r.after e)

  -- and as many marks as its type says
  more_count : length x.marks ≡ (shape x.code).marks
  more_count = rw r.after at (r.apart.fitting' c)

  -- marks of the mesh
  more_inside : Sound m' → (v : ℕ) → has v x.marks ≡ true → v < m'.caps.marks
  unfolding holds
  more_inside s v e = s.inside v c (rw r.after e)

  -- in another dimension than its own neither map has a cell there
  more_aside : (d : ℕ) → 1 ≤ d → ((shape x.code).dimension ≡ d → ⊥) → (dimension_at m c ≡ d → ⊥) × (dimension_at m' c ≡ d → ⊥)
  unfolding dimension_at no_cell S.shape S.shapes S.no_shape
  more_aside d l n =
      let none : dimension_at m c ≡ 0 = rw r.before in
      (λ e. absurd (omega (arith, none, e)), λ e. n (rw r.after at e))

  more_typed : 0 < (shape x.code).dimension → (1 ≤ (shape x.code).dimension) × ((shape x.code).dimension ≤ 3)
  more_typed l = (omega arith, dimension_most x.code l)

  -- a cell comes
  pub turn_in : Sound m → Sound m' → 0 < (shape x.code).dimension → Turn m m' c x.code x.marks
  turn_in s₀ s l = record {
    was = s₀;
    sound = s;
    typed = more_typed l;
    aside = more_aside;
    apart = r.apart;
    count = more_count;
    inside = more_inside s;
    free = more_free m m' c x r;
    facets = more_facets;
    others = more_type_other m m' c x r;
  }

  -- a cell goes
  pub turn_out : Sound m → Sound m' → 0 < (shape x.code).dimension → Turn m' m c x.code x.marks
  turn_out s s' l = record {
    was = s';
    sound = s;
    typed = more_typed l;
    aside = λ d i n. let f = more_aside d i n in (f.1, f.0);
    apart = apart_back m m' c r.apart;
    count = more_count;
    inside = λ v e. rw r.apart.caps at (more_inside s' v e);
    free = λ v e. let f = more_free m m' c x r v e in (f.1, f.0);
    facets = λ p e. let f = more_facets p e in (f.1, f.0);
    others = λ u l n. sym (more_type_other m m' c x r u l n);
  }

-- the cell is in the chains of its marks, or out of them
pub links_hold : (m m' : Map) (c : ℕ) (marks : List ℕ) (on : Bool) → Apart m m' c → ((v : ℕ) → has v marks ≡ false → Free m m' c v)
    → ((v : ℕ) → has v marks ≡ true → has v (m'.at c).marks ≡ on)
    → (s : State) → ((v k : ℕ) → s.chain v k ≡ holds m v k) → (v k : ℕ) → (with_links s c marks on).chain v k ≡ holds m' v k
unfolding with_links holds
links_hold m m' c marks on a free held s chains v k = go (eqb c k) refl (has v marks) refl
  where
    go : (b : Bool) → eqb c k ≡ b → (h : Bool) → has v marks ≡ h → cond (b && h) on (s.chain v k) ≡ has v (m'.at k).marks
    go true e true h = rw (← eqb-true c k e) (sym (held v h))
    go true e false h = chains v k ∙ rw (← eqb-true c k e) ((free v h).0 ∙ sym (free v h).1)
    go false e h q = chains v k ∙ rw (a.other k (λ z. eqb-false c k e (sym z)))

-- the state of m, with the cells and chains of m' and no sibling of the cell
pub record Around (caps : Caps) (m : Map) (c : ℕ) (s : State) : Type 0 where
  pub chains : (v k : ℕ) → s.chain v k ≡ holds (map_with caps s) v k
  pub own : (h : ℕ) → h / 8 ≡ c → sib_word s h ≡ 0
  pub other : (h : ℕ) → (h / 8 ≡ c → ⊥) → sib_word s h ≡ sib_word (state_of m) h
  pub ancs : (d v : ℕ) → s.anc d v ≡ (state_of m).anc d v
  pub counts : (u : ℕ) → s.count u ≡ (state_of m).count u

-- what is no half-facet has no sibling: a cell with no facets has none, and no cell has more than six
module _ (m : Map) (h : ℕ) where
  pub no_sib : facets_at m (h / 8) ≡ [] → sib_word (state_of m) h ≡ 0
  unfolding state_of is_half way_number
  no_sib e = rw (e, le-ltb (h % 8) 0 (omega arith))

  pub past_sib : most_facets ≤ h % 8 → sib_word (state_of m) h ≡ 0
  unfolding state_of is_half way_number
  past_sib l =
      rw (le-ltb (h % 8) (length (facets_at m (h / 8))) (omega (arith, facets_count m (h / 8), (facts (m.at (h / 8)).code).facets)))

module _ (m m' : Map) (c t : ℕ) (marks : List ℕ) (r : Turn m m' c t marks) (h : ℕ) (e : among m' (sets_of t marks) h ≡ false) where
  -- the set of a half-facet is none of the sets
  out_of_sets : is_half m' h ≡ true → any (same_set (marks_of m' h)) (sets_of t marks) ≡ false
  unfolding among
  out_of_sets half = rw half at e

  -- so it is no half-facet of the cell
  not_own : h / 8 ≡ c → sib_word (state_of m') h ≡ 0
  unfolding state_of is_half marks_of way_number
  not_own q = rw (not_true_false (is_half m' h) (λ half. clash (there half) (r.facets _ (out_of_sets half)).1))
    where
      there : is_half m' h ≡ true → any (same_set (marks_of m' h)) (facets_at m' c) ≡ true
      there half =
          subst (λ (k : ℕ). any (same_set (marks_of m' h)) (facets_at m' k) ≡ true) q
          (at_any (same_set (marks_of m' h)) (facets_at m' (h / 8)) [] (h % 8) (ltb-true _ _ half) (same_refl (marks_of m' h)))

  -- and one of another cell keeps its sibling, which runs the same way
  kept_sib : (h / 8 ≡ c → ⊥) → sib_word (state_of m) h ≡ sib_word (state_of m') h
  unfolding state_of
  kept_sib n = rw same.0 (go (is_half m h) refl)
    where
      same : (is_half m' h ≡ is_half m h) × (marks_of m' h ≡ marks_of m h)
      same = half_other m m' c r.apart h n

      go : (b : Bool) → is_half m h ≡ b
          → 4 * cond b (sibling m h) 0 + way_number (cond b (way m h) Lone) ≡ 4 * cond b (sibling m' h) 0 + way_number (cond b (way m' h) Lone)
      go true q =
          let half : is_half m' h ≡ true = same.0 ∙ q in
          let none = r.facets _ (out_of_sets half) in
          let back = apart_back m m' c r.apart in
          rw ((sibling_other m' m c back h n none.1 none.0).0, way_other m' m c back h n (half_live m' r.sound h half) none.1 none.0)
      go false q = refl

module _ (caps : Caps) (m : Map) (c t : ℕ) (marks : List ℕ) (s : State) (r : Turn m (map_with caps s) c t marks) (a : Around caps m c s) where
  pub around_settle : MaySettle caps table t marks s
  unfolding state_of map_with moved
  around_settle = record {
    ready = record { sound = r.sound; chains = a.chains };
    types = refl;
    typed = r.typed;
    count = r.count;
    inside = r.inside;
    sibs = λ h e. sib h e (ℕ_discrete (h / 8) c);
    ancs = λ d v l e. a.ancs d v ∙ ap next (sym (anc d v l (eqb (shape t).dimension d) refl e));
  }
    where
      anc : (d v : ℕ) → 1 ≤ d → (b : Bool) → eqb (shape t).dimension d ≡ b → b && has v marks ≡ false → anchors (map_with caps s) d v ≡ anchors m d v
      anc d v l true q e = anchors_free m (map_with caps s) c r.apart v (r.free v e) d
      anc d v l false q e =
          let n = r.aside d l (eqb-false _ d q) in anchors_aside m (map_with caps s) c r.apart r.was r.sound d n.0 n.1 v

      sib : (h : ℕ) → among (map_with caps s) (sets_of t marks) h ≡ false → Dec (h / 8 ≡ c) → sib_word s h ≡ sib_word (state_of (map_with caps s)) h
      sib h e (yes q) = a.own h q ∙ sym (not_own m (map_with caps s) c t marks r h e q)
      sib h e (no n) = a.other h n ∙ kept_sib m (map_with caps s) c t marks r h e n

  pub around_wf : TwoSolids (map_with caps s) → (w : List ℕ) → Pic w caps (with_count (settled caps s) t (length (cells_of (map_with caps s) t)))
      → Wf w (map_with caps s)
  unfolding with_count settled state_of map_with
  around_wf two w p = record { sound = r.sound; two = two; picture = subst (Pic w caps) fields counts }
    where
      m' : Map
      m' = map_with caps s

      counted : State
      counted = with_count (settled caps s) t (length (cells_of m' t))

      agree : (u : ℕ) → 1 ≤ u → u ≤ most_code → counted.count u ≡ (state_of m').count u
      agree u lo hi = go (ℕ_discrete t u)
        where
          go : Dec (t ≡ u) → counted.count u ≡ (state_of m').count u
          go (yes q) = rw (← q, eq-eqb t t refl)
          go (no n) = rw (ne_eqb t u n) (a.counts u ∙ ap length (sym (r.others u lo (λ z. n (sym z)))))

      -- counts are stored for the codes of the table
      counts : Pic w caps (retold counted counted.sib counted.way counted.anc (state_of m').count)
      counts =
          pic_retold caps counted counted.sib counted.way counted.anc (state_of m').count (λ d f h. refl) (λ d v h. refl) (λ u h. agree u h.0 h.1) w p

      fields : retold counted counted.sib counted.way counted.anc (state_of m').count ≡ state_of m'
      fields =
          state_same (retold counted counted.sib counted.way counted.anc (state_of m').count) (state_of m') refl
          (fun_ext (λ v. fun_ext (λ k. a.chains v k))) refl refl refl refl
