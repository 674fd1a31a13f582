-- Two maps that differ under one cell number only: everything at marks that this cell never held is the same.
use mathlib.Core.Path.{◌≡◌, refl, sym, ap, ◌∙◌}
use mathlib.Core.Bool.{Bool, true, false, ◌&&◌, ◌||◌}
use mathlib.Core.List.{List, [], map}
use mathlib.Core.Logic.{⊎_elim}
use Prim.Native.Nat.{ℕ, zero, suc, ◌*◌, ◌/◌, ◌%◌, ◌<◌}
use borrow.Author.Tests.{eq-eqb, ne_eqb, eqb-true, eqb-false, ltb-true}
use lib.Dec.{eqb}
use lib.ListN.{length, get_or, get_or-map}
use Rattle.lists.specs.Lists.{has, any, keep, select, same_set}
use Rattle.lists.proofs.Bools.{clash, either, and_left, and_right, not_true_false}
use Rattle.lists.proofs.Members.{any_at, at_any, at_has}
use Rattle.lists.proofs.Sets.{same_has}
use Rattle.lists.proofs.Select.{select_same}
use Rattle.lists.proofs.Keep.{keep_out}
use Rattle.numbers.specs.declared.Caps.{Caps}
use Rattle.shapes.specs.Shapes.{shape}
use Rattle.shapes.proofs.Facts.{facts}
use Rattle.map.specs.Cells.{Body, Map, no_cell, dimension_at, holds, facets_at}
use Rattle.map.specs.Siblings.{is_half, marks_of, sharers, siblings, sibling, border}
use Rattle.map.specs.Groups.{grow, grown, group_of}
use Rattle.map.specs.Stars.{holders, star, linked, group, halves_at, anchor, anchors}
use Rattle.map.specs.History.{Edit, Insert, Remove, cell_of, edit_answer, put, changed}
use Rattle.map.specs.Sound.{Sound}
use Rattle.lists.proofs.Alike.{one_or_other, keep_same, any_same, map_at, select_alike, and_false}
use Rattle.laws.proofs.Anchors.{star_has, halves_has}
use Rattle.laws.proofs.Edits.{MayInsert, MayRemove, may_insert, may_remove, sound_insert, sound_remove}

-- the maps differ under the number c only, and in both every cell has as many marks as its type says
pub record Apart (m m' : Map) (c : ℕ) : Type 0 where
  pub caps : m'.caps ≡ m.caps
  pub other : (k : ℕ) → (k ≡ c → ⊥) → m'.at k ≡ m.at k
  pub fitting : (k : ℕ) → length (m.at k).marks ≡ (shape (m.at k).code).marks
  pub fitting' : (k : ℕ) → length (m'.at k).marks ≡ (shape (m'.at k).code).marks

-- the cell holds the mark in neither map
abbrev pub Free : Map → Map → ℕ → ℕ → Type 0
Free m m' c v = (has v (m.at c).marks ≡ false) × (has v (m'.at c).marks ≡ false)

module _ (m : Map) (c : ℕ) (fit : length (m.at c).marks ≡ (shape (m.at c).code).marks) where
  -- a facet's marks are marks of its cell
  pub facets_inside : (f v : ℕ) → has v (get_or (facets_at m c) f []) ≡ true → has v (m.at c).marks ≡ true
  unfolding facets_at
  facets_inside f v e =
      let mark : ℕ → ℕ = λ p. get_or (m.at c).marks p 0 in
      let facets : List (List ℕ) = (shape (m.at c).code).facets in
      let r = map_at mark (get_or facets f []) v (sym (ap (has v) (get_or-map (map mark) facets f [])) ∙ e) in
      rw r.2 at (at_has (m.at c).marks (get_or (get_or facets f []) r.0 0) (rw fit ((facts (m.at c).code).inside f r.0 r.1)))

  -- no facet passes a test that only facets at a mark pass, where the cell has not the mark
  pub facets_lack : (v : ℕ) → has v (m.at c).marks ≡ false → (p : List ℕ → Bool) → ((set : List ℕ) → p set ≡ true → has v set ≡ true)
      → any p (facets_at m c) ≡ false
  facets_lack v e p only =
      not_true_false _ (λ t. let r = any_at p (facets_at m c) [] t in clash (facets_inside r.0 v (only _ r.2)) e)

-- a half-facet's marks are marks of its cell
pub half_inside : (m : Map) → ((k : ℕ) → length (m.at k).marks ≡ (shape (m.at k).code).marks)
    → (h v : ℕ) → has v (marks_of m h) ≡ true → holds m v (h / 8) ≡ true
unfolding marks_of holds
half_inside m fit h v e = facets_inside m (h / 8) (fit (h / 8)) (h % 8) v e

-- a test that no facet of the cell passes is passed by no half-facet of it
half_fails : (m : Map) (p : List ℕ → Bool) (h : ℕ) → any p (facets_at m (h / 8)) ≡ false → is_half m h && p (marks_of m h) ≡ false
unfolding is_half marks_of
half_fails m p h e =
    not_true_false _
    (λ t. clash (at_any p (facets_at m (h / 8)) [] (h % 8) (ltb-true _ _ (and_left _ _ t)) (and_right (is_half m h) _ t)) e)

-- links that agree on the cells of the list give the same groups
pub groups_same : (link link' : ℕ → ℕ → Bool) (s : List ℕ)
    → ((a b : ℕ) → has a s ≡ true → has b s ≡ true → link a b ≡ link' a b) → (a : ℕ) → group_of link s a ≡ group_of link' s a
unfolding group_of grown grow
groups_same link link' s agree a = go (length s) (keep (λ b. eqb b a) s) (λ b h. (keep_out (λ b. eqb b a) s b h).1)
  where
    go : (n : ℕ) (g : List ℕ) → ((b : ℕ) → has b g ≡ true → has b s ≡ true) → grown link s n g ≡ grown link' s n g
    go zero g inner = refl
    go (suc n) g inner =
        let step : grow link s g ≡ grow link' s g =
        keep_same _ _ s (λ b h. ap (λ (t : Bool). has b g || t) (any_same _ _ g (λ a i. agree a b (inner a i) h))) in
        rw step (go n (grow link' s g) (λ b h. (keep_out _ s b h).1))

-- the cells that pass, by their type and marks
abbrev pub picked : Map → (Body → Bool) → List ℕ
picked m p = select (λ k. p (m.at k)) m.caps.cells

module _ (m m' : Map) (c : ℕ) (a : Apart m m' c) where
  -- the difference is the same either way round
  pub apart_back : Apart m' m c
  apart_back = record {
    caps = sym a.caps;
    other = λ k n. sym (a.other k n);
    fitting = a.fitting';
    fitting' = a.fitting;
  }

  -- a test that says the same of the cell in both maps picks the same cells
  pub picked_same : (p : Body → Bool) → p (m'.at c) ≡ p (m.at c) → picked m' p ≡ picked m p
  picked_same p e =
      rw a.caps
      (select_same _ _ m.caps.cells
      (λ k l. one_or_other c (λ k. p (m'.at k) ≡ p (m.at k)) e (λ k n. ap p (a.other k n)) k))

  -- the half-facets of the other cells are the same
  pub half_other : (h : ℕ) → (h / 8 ≡ c → ⊥) → (is_half m' h ≡ is_half m h) × (marks_of m' h ≡ marks_of m h)
  unfolding is_half marks_of facets_at
  half_other h n = (rw (a.other (h / 8) n), rw (a.other (h / 8) n))

  -- tests that agree select the same half-facets
  pub halves_listed : (p q : ℕ → Bool) → ((h : ℕ) → p h ≡ q h) → select p (8 * m'.caps.cells) ≡ select q (8 * m.caps.cells)
  halves_listed p q f = rw a.caps (select_same p q (8 * m.caps.cells) (λ h l. f h))

  -- a test that no facet of the cell passes, in neither map, is passed by the same half-facets
  halves_same : (p : List ℕ → Bool) → any p (facets_at m c) ≡ false → any p (facets_at m' c) ≡ false
      → (h : ℕ) → is_half m' h && p (marks_of m' h) ≡ is_half m h && p (marks_of m h)
  halves_same p e e' h =
      ⊎_elim (λ q. let z : h / 8 ≡ c = eqb-true _ c q in half_fails m' p h (rw z e') ∙ sym (half_fails m p h (rw z e)))
      (λ q. let r = half_other h (eqb-false _ c q) in rw (r.0, r.1))
      (either (eqb (h / 8) c))

  -- a set that no facet of the cell has, in neither map, has the same sharers
  pub sharers_other : (set : List ℕ) → any (same_set set) (facets_at m c) ≡ false → any (same_set set) (facets_at m' c) ≡ false
      → sharers m' set ≡ sharers m set
  unfolding sharers
  sharers_other set e e' = halves_listed _ _ (halves_same (same_set set) e e')

  -- every set has the same sharers among the half-facets of the other cells
  pub sharers_at : (set : List ℕ) (h : ℕ) → (h / 8 ≡ c → ⊥) → has h (sharers m' set) ≡ has h (sharers m set)
  unfolding sharers
  sharers_at set h n = let r = half_other h n in select_alike _ _ _ _ h (ap (λ (caps : Caps). 8 * caps.cells) a.caps) (rw (r.0, r.1))

  -- with the same siblings a half-facet has the same sibling, and is a border as before
  same_siblings : (h : ℕ) → siblings m' h ≡ siblings m h → (sibling m' h ≡ sibling m h) × (border m' h ≡ border m h)
  unfolding sibling border
  same_siblings h e = (rw e, rw e)

  module _ (h : ℕ) (n : h / 8 ≡ c → ⊥) where
    -- a half-facet of another cell whose set no facet of the cell has, in neither map, has the same siblings
    pub siblings_other : any (same_set (marks_of m h)) (facets_at m c) ≡ false → any (same_set (marks_of m h)) (facets_at m' c) ≡ false
        → siblings m' h ≡ siblings m h
    unfolding siblings
    siblings_other e e' = rw (half_other h n).1 (sharers_other (marks_of m h) e e')

    -- so the same sibling, and it is a border as before
    pub sibling_other : any (same_set (marks_of m h)) (facets_at m c) ≡ false → any (same_set (marks_of m h)) (facets_at m' c) ≡ false
        → (sibling m' h ≡ sibling m h) × (border m' h ≡ border m h)
    sibling_other e e' = same_siblings h (siblings_other e e')

  -- two other cells are linked as before
  pub linked_other : (v x y : ℕ) → (x ≡ c → ⊥) → (y ≡ c → ⊥) → linked m' v x y ≡ linked m v x y
  unfolding linked facets_at
  linked_other v x y n n' = rw (a.other x n, a.other y n')

  module _ (v : ℕ) (free : Free m m' c v) where
    -- the same cells hold the mark
    pub holds_free : (k : ℕ) → holds m' v k ≡ holds m v k
    unfolding holds
    holds_free k = one_or_other c (λ k. holds m' v k ≡ holds m v k) (free.1 ∙ sym free.0) (λ k n. rw (a.other k n)) k

    -- a cell that holds the mark is another one
    pub holds_other : (k : ℕ) → holds m v k ≡ true → k ≡ c → ⊥
    unfolding holds
    holds_other k h z = clash (rw z at h) free.0

    -- in one list
    pub holders_free : holders m' v ≡ holders m v
    unfolding holders holds
    holders_free = picked_same (λ x. has v x.marks) (free.1 ∙ sym free.0)

    -- no facet of the cell passes a test that only facets at the mark pass
    facets_free : (p : List ℕ → Bool) → ((set : List ℕ) → p set ≡ true → has v set ≡ true)
        → (any p (facets_at m c) ≡ false) × (any p (facets_at m' c) ≡ false)
    facets_free p only = (facets_lack m c (a.fitting c) v free.0 p only, facets_lack m' c (a.fitting' c) v free.1 p only)

    -- a set with the mark has the same sharers
    pub sharers_free : (set : List ℕ) → has v set ≡ true → sharers m' set ≡ sharers m set
    sharers_free set h = let none = facets_free (same_set set) (λ b e. sym (same_has set b e v) ∙ h) in sharers_other set none.0 none.1

    -- a half-facet at the mark has the same marks, and is live as before
    pub half_free : (h : ℕ) → has v (marks_of m h) ≡ true → (is_half m' h ≡ is_half m h) × (marks_of m' h ≡ marks_of m h)
    half_free h i = half_other h (holds_other (h / 8) (half_inside m a.fitting h v i))

    -- the same siblings
    pub siblings_free : (h : ℕ) → has v (marks_of m h) ≡ true → siblings m' h ≡ siblings m h
    unfolding siblings
    siblings_free h i = rw (half_free h i).1 (sharers_free (marks_of m h) i)

    -- so the same sibling, and it is a border as before
    pub sibling_free : (h : ℕ) → has v (marks_of m h) ≡ true → (sibling m' h ≡ sibling m h) × (border m' h ≡ border m h)
    sibling_free h i = same_siblings h (siblings_free h i)

    -- the mark has the same star
    pub star_free : (d : ℕ) → star m' d v ≡ star m d v
    unfolding star holds dimension_at
    star_free d = picked_same (λ x. eqb (shape x.code).dimension d && has v x.marks) (simp (free.0, free.1, and_false))

    -- and its cells are in the same groups
    pub group_free : (d x : ℕ) → group m' d v x ≡ group m d v x
    unfolding group
    group_free d x =
        rw (star_free d)
        (groups_same _ _ (star m d v)
        (λ x y h i. linked_other v x y (holds_other x (star_has m d v x h).2) (holds_other y (star_has m d v y i).2)) x)

    -- the half-facets at the mark are the same
    pub halves_free : (g : List ℕ) → halves_at m' v g ≡ halves_at m v g
    unfolding halves_at
    halves_free g =
        let none = facets_free (has v) (λ b e. e) in
        halves_listed _ _ (λ h. ap (λ (t : Bool). has (h / 8) g && t) (halves_same (has v) none.0 none.1 h))

    -- each group has the same anchor at the mark
    pub anchor_free : (g : List ℕ) → anchor m' v g ≡ anchor m v g
    unfolding anchor
    anchor_free g = rw (halves_free g, keep_same _ _ (halves_at m v g) (λ h e. (sibling_free h (halves_has m v g h e).3).1))

    -- and the mark the same anchors
    pub anchors_free : (d : ℕ) → anchors m' d v ≡ anchors m d v
    unfolding anchors
    anchors_free d = halves_listed _ _ (λ h. rw (star_free d, group_free d (h / 8), anchor_free (group m d v (h / 8))))

-- the second map has one cell more: x, under the number c
pub record OneMore (m m' : Map) (c : ℕ) (x : Body) : Type 0 where
  pub apart : Apart m m' c
  pub number : c < m.caps.cells
  pub before : m.at c ≡ no_cell
  pub after : m'.at c ≡ x

module _ (m : Map) (s : Sound m) (c : ℕ) where
  -- another cell under a number changes the map there only
  apart_put : (x : Body) → Sound (put m c x) → Apart m (put m c x) c
  unfolding put
  apart_put x s' = record {
    caps = refl;
    other = λ k n. rw (ne_eqb c k (λ z. n (sym z)));
    fitting = s.fitting;
    fitting' = s'.fitting;
  }

  -- an accepted insertion makes one cell more
  pub more_insert : (x : Body) → MayInsert m c x → OneMore m (changed m (Insert c x)) c x
  unfolding changed put
  more_insert x r = record {
    apart = apart_put _ (sound_insert m s c x r);
    number = r.number;
    before = s.dead c r.free;
    after = rw (eq-eqb c c refl);
  }

  -- before a removal there was one more
  pub more_remove : MayRemove m c → OneMore (changed m (Remove c)) m c (m.at c)
  unfolding changed put
  more_remove r = record {
    apart = apart_back _ _ c (apart_put _ (sound_remove m s c r));
    number = r.number;
    before = rw (eq-eqb c c refl);
    after = refl;
  }

  -- so an insertion changes the map under one number only
  pub apart_insert : (x : Body) → MayInsert m c x → Apart m (changed m (Insert c x)) c
  apart_insert x r = (more_insert x r).apart

  -- and so does a removal
  pub apart_remove : MayRemove m c → Apart m (changed m (Remove c)) c
  apart_remove r = apart_back _ _ c (more_remove r).apart

-- one cell more or less: in neither map the number holds a mark that the cell has not
pub more_free : (m m' : Map) (c : ℕ) (x : Body) → OneMore m m' c x → (v : ℕ) → has v x.marks ≡ false → Free m m' c v
unfolding no_cell has
more_free m m' c x r v e = (rw r.before, rw r.after e)

module _ (m : Map) (s : Sound m) where
  -- every accepted edit changes the map under one number only
  pub apart_changed : (e : Edit) → (edit_answer m e).refusal ≡ 0 → Apart m (changed m e) (cell_of e)
  apart_changed (Insert c x) a = apart_insert m s c x (may_insert m c x a)
  apart_changed (Remove c) a = apart_remove m s c (may_remove m c a)
