-- On the picture of a settled state, the place that is sought is the anchor of the group, and the list is that of the anchors.
use mathlib.Core.Path.{◌≡◌, refl, sym, ap, ◌∙◌}
use mathlib.Core.Bool.{Bool, true, false, not, ◌&&◌, ◌||◌}
use mathlib.Core.List.{List, [], ◌∷◌, map}
use mathlib.Core.Logic.{⊎_elim}
use Prim.Native.Nat.{ℕ, ◌+◌, ◌*◌, ◌/◌, ◌%◌, ◌<◌, ◌≤◌}
use native.Mathlib.Decide.{dec_lt}
use native.Mathlib.Nat.{not-suc-le-zero}
use native.Mathlib.Omega.{arith}
use borrow.Author.Tests.{eq-eqb, eqb-true, lt-ltb, le-ltb}
use lib.Dec.{eqb}
use lib.ListN.{length, get_or, drop, get_or-append}
use Rattle.lists.specs.Lists.{has, select, first}
use Rattle.lists.specs.Ascending.{Ascending}
use Rattle.lists.specs.Filled.{Copied}
use Rattle.lists.proofs.Bools.{clash, and_left, and_right, and_both, or_cases, same_test, not_true_false}
use Rattle.lists.proofs.Members.{at_has, first_has}
use Rattle.lists.proofs.Select.{select_in, select_out}
use Rattle.lists.proofs.Keep.{first_either, map_has}
use Rattle.lists.proofs.Alike.{map_at}
use Rattle.lists.proofs.Order.{select_ascends, first_least, asc_same}
use Rattle.numbers.specs.Half.{cut, half_of}
use Rattle.numbers.specs.declared.Caps.{Caps}
use Rattle.map.specs.Cells.{Map, facets_at}
use Rattle.map.specs.Siblings.{is_half, Half, marks_of, border}
use Rattle.map.specs.Stars.{star, linked, group, halves_at, anchor, anchors}
use Rattle.laws.proofs.Anchors.{half_facet, star_has, halves_has, has_halves, anchor_border, anchor_least, anchors_of, anchors_ascend}
use Rattle.laws.proofs.StarGroups.{group_in_star}
use Rattle.laws.proofs.Anchored.{anchor_half}
use Rattle.laws.proofs.AnchorsListed.{anchors_listed}
use Rattle.laws.proofs.Halves.{half_live}
use Rattle.picture.specs.State.{State, map_with, next}
use Rattle.picture.specs.Picture.{Pic}
use Rattle.facet.specs.Facet.{facet_in}
use Rattle.lists.proofs.Mapped.{map_ascends}
use Rattle.facet.proofs.Read.{facet_read}
use Rattle.star.specs.Listed.{Gives, Reads, AtMark}
use Rattle.border.specs.Borders.{border_in, wanted_in}
use Rattle.group.specs.Group.{Around}
use Rattle.group.specs.Labels.{link_in, Labelled}
use Rattle.group.specs.Places.{chosen_in, seek_in, place_in, anchors_in}
use Rattle.border.proofs.Words.{facet_there, border_read}
use Rattle.group.proofs.Round.{linked_read}
use Rattle.group.proofs.Listing.{list_size}
use Rattle.group.proofs.Grouped.{Starred, starred, Grouped, grouped, place_one}
use Rattle.numbers.specs.Sizes.{most_around}

-- a cell of a star is a cell of the mesh
star_below : (caps : Caps) (s : State) (d v c : ℕ) → has c (star (map_with caps s) d v) ≡ true → c < caps.cells
unfolding map_with
star_below caps s d v c e = (star_has (map_with caps s) d v c e).0

-- the half-facet of a place
abbrev half_at : List ℕ → ℕ → ℕ
half_at cells x = 8 * get_or cells (x / 8) 0 + x % 8

module _ (w : List ℕ) (caps : Caps) (rows : List (List (List ℕ))) (d v : ℕ) (s : State) (p : Pic w caps s) (a : Around caps rows v s)
    (cells : List ℕ) (n : ℕ) (st : Starred (map_with caps s) d v cells n) where
  abbrev m : Map
  m = map_with caps s

  cell_below : (j : ℕ) → j < n → get_or cells j 0 < caps.cells
  cell_below j h = star_below caps s d v (get_or cells j 0) (st.inside j h)

  facet_here : (x : ℕ) → x / 8 < n → facet_in w caps rows (get_or cells (x / 8) 0) (x % 8) ≡ get_or (facets_at m (get_or cells (x / 8) 0)) (x % 8) []
  unfolding map_with
  facet_here x h =
      ap (λ (t : List (List (List ℕ))). facet_in w caps t (get_or cells (x / 8) 0) (x % 8)) a.types
      ∙ facet_read w caps s p (get_or cells (x / 8) 0) (cell_below (x / 8) h) (a.settled.ready.sound.fitting (get_or cells (x / 8) 0)) (x % 8)

  -- later places have higher half-facets
  half_up : (x y : ℕ) → x ≤ y → y / 8 < n → half_at cells x ≤ half_at cells y
  half_up x y l h = go (dec_lt (x / 8) (y / 8))
    where
      go : Dec (x / 8 < y / 8) → half_at cells x ≤ half_at cells y
      go (yes k) = omega (arith, st.up (x / 8) (y / 8) k h)
      go (no f) =
          let q : x / 8 ≡ y / 8 = omega arith in
          omega (arith, ap (λ (j : ℕ). get_or cells j 0) q)

  module _ (x : ℕ) (h : x / 8 < n) (e : has v (get_or (facets_at m (get_or cells (x / 8) 0)) (x % 8) []) ≡ true) where
    half_here : (half_at cells x / 8 ≡ get_or cells (x / 8) 0) × Half m (half_at cells x) × (has v (marks_of m (half_at cells x)) ≡ true)
    half_here =
        let r = half_facet m (get_or cells (x / 8) 0) (x % 8) (facet_there m _ (x % 8) v e) in
        (r.0, half_live m a.settled.ready.sound (half_at cells x) r.1, rw r.2 e)

    border_here : border_in w caps (get_or cells (x / 8) 0) (x % 8) ≡ border m (half_at cells x)
    border_here = border_read w caps s p a.settled (get_or cells (x / 8) 0) (x % 8) (cell_below (x / 8) h) (omega arith) half_here.1

  module _ (lab : List ℕ) (gr : Grouped (map_with caps s) d v cells n lab) (i : ℕ) (hi : i < n) where
    abbrev g : List ℕ
    g = group m d v (get_or cells i 0)

    abbrev test : Bool → ℕ → Bool
    test only x = chosen_in w caps rows v cells lab i only x

    -- what is chosen is a half-facet of the group at the mark
    chosen_in_lem : (only : Bool) (x : ℕ) → x < 8 * n → test only x ≡ true
        → (has (half_at cells x) (halves_at m v g) ≡ true) × (only ≡ true → border m (half_at cells x) ≡ true)
    unfolding chosen_in wanted_in
    chosen_in_lem only x less e = (there, λ o. sym (border_here x h here) ∙ ⊎_elim (λ k. absurd (not_only o k)) (λ k. k) (or_cases _ _ tail))
      where
        h : x / 8 < n
        h = omega arith

        rest : wanted_in w caps (get_or cells (x / 8) 0) (x % 8) only && has v (facet_in w caps rows (get_or cells (x / 8) 0) (x % 8)) ≡ true
        rest = and_right (eqb (get_or lab (x / 8) 0) (get_or lab i 0)) _ e

        tail : not only || border_in w caps (get_or cells (x / 8) 0) (x % 8) ≡ true
        tail = and_left _ _ rest

        here : has v (get_or (facets_at m (get_or cells (x / 8) 0)) (x % 8) []) ≡ true
        here =
            let mark : has v (facet_in w caps rows (get_or cells (x / 8) 0) (x % 8)) ≡ true = and_right (wanted_in w caps (get_or cells (x / 8) 0) (x % 8) only) _ rest in
            rw (facet_here x h) at mark

        same : get_or lab (x / 8) 0 ≡ get_or lab i 0
        same = eqb-true _ _ (and_left _ _ e)

        there : has (half_at cells x) (halves_at m v g) ≡ true
        there =
            let r = half_here x h here in
            has_halves m v g (half_at cells x) r.1.below (rw r.0 (gr.one i (x / 8) hi h (sym same))) r.1.facet r.2

        not_only : only ≡ true → not only ≡ true → ⊥
        not_only o k = clash (sym (ap not o) ∙ k) refl

    -- and each such half-facet is chosen at its place
    chosen_of : (k : ℕ) → has k (halves_at m v g) ≡ true
        → (x : ℕ) × (x < 8 * n) × (half_at cells x ≡ k) × ((only : Bool) → (only ≡ true → border m k ≡ true) → test only x ≡ true)
    unfolding chosen_in wanted_in marks_of
    chosen_of k e = (x, less, half, λ only f. and_both _ _ (eq-eqb _ _ same) (and_both _ _ (tail only f) mark))
      where
        r : (k < 8 * m.caps.cells) × (has (k / 8) g ≡ true) × (is_half m k ≡ true) × (has v (marks_of m k) ≡ true)
        r = halves_has m v g k e

        q : (j : ℕ) × (j < n) × (get_or cells j 0 ≡ k / 8)
        q = st.there (k / 8) (group_in_star m d v (get_or cells i 0) (k / 8) r.1)

        x : ℕ
        x = 8 * q.0 + k % 8

        place : x / 8 ≡ q.0
        place = omega arith

        local : x % 8 ≡ k % 8
        local = omega arith

        h : x / 8 < n
        h = omega (arith, q.1, place)

        less : x < 8 * n
        less = omega (arith, q.1)

        cell : get_or cells (x / 8) 0 ≡ k / 8
        cell = ap (λ (j : ℕ). get_or cells j 0) place ∙ q.2

        half : half_at cells x ≡ k
        half = omega (arith, cell, local)

        same : get_or lab (x / 8) 0 ≡ get_or lab i 0
        same = sym (gr.same i (x / 8) hi h (rw cell r.1))

        here : has v (get_or (facets_at m (get_or cells (x / 8) 0)) (x % 8) []) ≡ true
        here = rw (cell, local) r.3

        mark : has v (facet_in w caps rows (get_or cells (x / 8) 0) (x % 8)) ≡ true
        mark = rw (facet_here x h) here

        tail : (only : Bool) → (only ≡ true → border m k ≡ true) → not only || border_in w caps (get_or cells (x / 8) 0) (x % 8) ≡ true
        tail false f = refl
        tail true f = border_here x h here ∙ (ap (border m) half ∙ f refl)

    abbrev found : Bool → ℕ
    found only = first (8 * n) (select (test only) (8 * n))

    -- what is sought first is the first
    found_is : (only : Bool) (y : ℕ) → y < 8 * n → test only y ≡ true → (found only < 8 * n) × (test only (found only) ≡ true) × (found only ≤ y)
    found_is only y h e =
        let there : has y (select (test only) (8 * n)) ≡ true = select_in (test only) (8 * n) y h e in
        let r = select_out (test only) (8 * n) (found only) (first_has (8 * n) (select (test only) (8 * n)) y there) in
        (r.0, r.1, first_least (8 * n) (select (test only) (8 * n)) (select_ascends (test only) (8 * n)) y there)

    -- where it is found at all
    found_some : (only : Bool) → found only < 8 * n → test only (found only) ≡ true
    found_some only l =
        ⊎_elim (λ e. absurd (omega arith)) (λ e. (select_out (test only) (8 * n) (found only) e).1)
        (first_either (8 * n) (select (test only) (8 * n)))

    anchor_there : has (anchor m v g) (halves_at m v g) ≡ true
    anchor_there = anchor_half m d v (record { count = a.settled.ready.sound.fitting }) (get_or cells i 0) (st.inside i hi)

    with_border : found true < 8 * n → half_at cells (found true) ≡ anchor m v g
    with_border l =
        let f = found true in
        let r = chosen_in_lem true f l (found_some true l) in
        let b = anchor_border m v g (half_at cells f) r.0 (r.1 refl) in
        let y = chosen_of (anchor m v g) anchor_there in
        let z = found_is true y.0 y.1 (y.3 true (λ _. b.0)) in
        let up : half_at cells f ≤ half_at cells y.0 = half_up f y.0 z.2 (omega (arith, y.1)) in
        omega (arith, b.1, up, y.2)

    without_border : 8 * n ≤ found true → (found false < 8 * n) × (half_at cells (found false) ≡ anchor m v g)
    without_border l =
        let f = found false in
        let y = chosen_of (anchor m v g) anchor_there in
        let z = found_is false y.0 y.1 (y.3 false (λ t. absurd (clash t refl))) in
        let r = chosen_in_lem false f z.0 z.1 in
        let low : anchor m v g ≤ half_at cells f = anchor_least m v g none (half_at cells f) r.0 in
        let up : half_at cells f ≤ half_at cells y.0 = half_up f y.0 z.2 (omega (arith, y.1)) in
        (z.0, omega (arith, low, up, y.2))
      where
        none : (k : ℕ) → has k (halves_at m v g) ≡ true → border m k ≡ false
        none k e = not_true_false (border m k) (λ b.
            let y = chosen_of k e in
            let z = found_is true y.0 y.1 (y.3 true (λ _. b)) in
            omega (arith, z.0))

    pub place_is : (place_in w caps rows v cells lab (8 * n) i < 8 * n) × (half_at cells (place_in w caps rows v cells lab (8 * n) i) ≡ anchor m v g)
    unfolding place_in seek_in
    place_is = go (dec_lt (found true) (8 * n))
      where
        go : Dec (found true < 8 * n) → (place_in w caps rows v cells lab (8 * n) i < 8 * n) × (half_at cells (place_in w caps rows v cells lab (8 * n) i) ≡ anchor m v g)
        go (yes l) = rw (lt-ltb (found true) (8 * n) l) (l, with_border l)
        go (no f) = rw (le-ltb (found true) (8 * n) (omega arith)) (without_border (omega arith))

  module _ (lab : List ℕ) (gr : Grouped (map_with caps s) d v cells n lab) where
    abbrev spot : ℕ → ℕ
    spot i = place_in w caps rows v cells lab (8 * n) i

    abbrev own : ℕ → Bool
    own i = eqb (spot i / 8) i

    abbrev half : ℕ → ℕ
    half i = half_of (cut (get_or cells i 0)) (spot i % 8)

    -- a place whose own cell has the anchor
    half_own : (i : ℕ) → i < n → spot i / 8 ≡ i → half i ≡ anchor m v (group m d v (get_or cells i 0))
    unfolding half_of
    half_own i h e =
        let cell : get_or cells (spot i / 8) 0 ≡ get_or cells i 0 = ap (λ (j : ℕ). get_or cells j 0) e in
        omega (arith, (place_is lab gr i h).1, cell, cell_below i h, p.cells)

    list_ascends : Ascending (map half (select own n))
    unfolding half_of
    list_ascends =
        map_ascends half (select own n) (select_ascends own n)
        (λ i j hi hj l.
        let i_below : i < n = (select_out own n i hi).0 in
        let j_below : j < n = (select_out own n j hj).0 in
        omega (arith, st.up i j l j_below, cell_below i i_below, cell_below j j_below, p.cells))

    listed_is : (k : ℕ) → has k (map half (select own n)) ≡ true → has k (anchors m d v) ≡ true
    listed_is k e =
        let r = map_at half (select own n) k e in
        let i : ℕ = get_or (select own n) r.0 0 in
        let q = select_out own n i (at_has (select own n) r.0 r.1) in
        let same : anchor m v (group m d v (get_or cells i 0)) ≡ k = sym (half_own i q.0 (eqb-true _ _ q.1)) ∙ r.2 in
        rw same at (anchors_listed m d v (record { count = a.settled.ready.sound.fitting }) (get_or cells i 0) (st.inside i q.0))

    is_listed : (k : ℕ) → has k (anchors m d v) ≡ true → has k (map half (select own n)) ≡ true
    is_listed k e =
        let r = anchors_of m d v k e in
        let q = st.there (k / 8) r.0 in
        let j : ℕ = q.0 in
        let x = place_is lab gr j q.1 in
        let here : half_at cells (spot j) ≡ k = x.1 ∙ (ap (λ (c : ℕ). anchor m v (group m d v c)) q.2 ∙ sym r.1) in
        let mine : spot j / 8 ≡ j = place_one m d v cells n st (spot j / 8) j (omega (arith, x.0)) q.1 (omega (arith, here, q.2)) in
        let same : half j ≡ k = half_own j q.1 mine ∙ (sym x.1 ∙ here) in
        rw same at (map_has half (select own n) j (select_in own n j q.1 (eq-eqb _ _ mine)))

    pub anchors_are : anchors_in (place_in w caps rows v cells lab (8 * n)) cells n ≡ anchors m d v
    unfolding anchors_in
    anchors_are =
        asc_same (map half (select own n)) (anchors m d v) list_ascends (anchors_ascend m d v)
        (λ k. same_test _ _ (listed_is k) (is_listed k))

  links_are : (i j : ℕ) → i < n → j < n → (i ≡ j → ⊥) → link_in w caps rows v cells i j ≡ linked m v (get_or cells i 0) (get_or cells j 0)
  unfolding link_in
  links_are i j hi hj apart =
      linked_read w caps s p a.settled rows a.types v (get_or cells i 0) (get_or cells j 0) (cell_below i hi) (λ e. apart (place_one m d v cells n st i j hi hj e))

pub anchors_gives : (w : List ℕ) (caps : Caps) (rows : List (List (List ℕ))) (d v : ℕ) (zeros cells blank lab o o' : List ℕ) (n r : ℕ)
    → Gives w caps most_around (AtMark caps v) (λ m. star m d v) zeros n cells → length zeros ≡ most_around
    → Labelled (link_in w caps rows v cells) n blank lab → length blank ≡ most_around
    → Copied (anchors_in (place_in w caps rows v cells lab (8 * n)) cells n) o r o'
    → Gives w caps most_around (Around caps rows v) (λ m. anchors m d v) o r o'
anchors_gives w caps rows d v zeros cells blank lab o o' n r stars room labs space list = record {
  few = omega (arith, list.count, list_size (place_in w caps rows v cells lab (8 * n)) cells n, stars.few);
  size = list.filled.size;
  gives = λ s p a.
      let st = starred (map_with caps s) d v zeros cells n (stars.gives s p (record { ready = a.settled.ready; mark = a.mark })) (omega (arith, stars.few)) in
      let gr = grouped (map_with caps s) d v cells n st (link_in w caps rows v cells) blank lab (omega (arith, stars.few)) labs (links_are w caps rows d v s p a cells n st) in
      rw (anchors_are w caps rows d v s p a cells n st lab gr) at list;
}

-- where the star has no cell there is none
none_listed : (place : ℕ → ℕ) (cells o : List ℕ) → Copied (anchors_in place cells 0) o 0 o
unfolding anchors_in select
none_listed place cells o = record { count = refl; filled = record { size = refl; wrote = λ _. refl } }

pub anchors_none : (w : List ℕ) (caps : Caps) (rows : List (List (List ℕ))) (d v : ℕ) (zeros cells o : List ℕ) (n : ℕ)
    → Gives w caps most_around (AtMark caps v) (λ m. star m d v) zeros n cells → length zeros ≡ most_around → n ≡ 0
    → Gives w caps most_around (Around caps rows v) (λ m. anchors m d v) o 0 o
anchors_none w caps rows d v zeros cells o n stars room e =
    anchors_gives w caps rows d v zeros cells zeros zeros o o n 0 stars room none room (rw e (none_listed _ cells o))
  where
    none : Labelled (link_in w caps rows v cells) n zeros zeros
    none = record {
      size = refl;
      linked = λ _ a b below high link. absurd (omega arith);
      within = λ _ R rel self p q low. absurd (omega arith);
    }

-- the first of them
next_first : (l : List ℕ) → 0 < length l → get_or l 0 0 + 1 ≡ next l
unfolding next
next_first [] h = absurd (not-suc-le-zero h)
next_first (x ∷ xs) h = omega arith

next_none : (l : List ℕ) → length l ≡ 0 → 0 ≡ next l
unfolding next
next_none [] e = refl
next_none (x ∷ xs) e = absurd (omega arith)

anchor_below : (caps : Caps) (s : State) (d v : ℕ) → 0 < length (anchors (map_with caps s) d v) → get_or (anchors (map_with caps s) d v) 0 0 < 8 * caps.cells
unfolding anchors map_with
anchor_below caps s d v h = (select_out _ (8 * caps.cells) _ (at_has (anchors (map_with caps s) d v) 0 h)).0

module _ (w : List ℕ) (caps : Caps) (rows : List (List (List ℕ))) (d v : ℕ) (zeros out : List ℕ) (n : ℕ)
    (found : Gives w caps most_around (Around caps rows v) (λ m. anchors m d v) zeros n out) (room : length zeros ≡ most_around) where
  pub first_none : n ≡ 0 → Reads w caps (Around caps rows v) (λ m. next (anchors m d v)) 0
  first_none e = record { reads = λ s p a. next_none (anchors (map_with caps s) d v) (omega (arith, (found.gives s p a).count)) }

  module _ (h : ℕ) (word : h ≡ get_or out 0 0) (some : n ≡ 0 → ⊥) where
    first_is : (s : State) → Pic w caps s → Around caps rows v s → (h ≡ get_or (anchors (map_with caps s) d v) 0 0) × (0 < length (anchors (map_with caps s) d v))
    first_is s p a =
        let f = found.gives s p a in
        let l : List ℕ = anchors (map_with caps s) d v in
        let size : 0 < length l = omega (arith, f.count, some) in (
          word
              ∙ (ap (λ (x : List ℕ). get_or x 0 0) (f.filled.wrote (omega (arith, f.count, found.few)))
              ∙ get_or-append l (drop (length l) zeros) 0 0 size),
          size,
        )

    pub first_some : Reads w caps (Around caps rows v) (λ m. next (anchors m d v)) (h + 1)
    first_some = record {
      reads = λ s p a. let r = first_is s p a in ap (λ (x : ℕ). x + 1) r.0 ∙ next_first (anchors (map_with caps s) d v) r.1;
    }

    pub first_large : 524288 ≤ h → Reads w caps (Around caps rows v) (λ m. next (anchors m d v)) 0
    first_large large = record {
      reads = λ s p a. let r = first_is s p a in absurd (omega (arith, r.0, anchor_below caps s d v r.1, p.cells));
    }
