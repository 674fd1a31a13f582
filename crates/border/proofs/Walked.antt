-- Walks from half-facet to half-facet at a mark: they stay in the group.
use mathlib.Core.Path.{◌≡◌, refl, sym, ap, ◌∙◌}
use mathlib.Core.Bool.{Bool, true, false}
use mathlib.Core.List.{List, []}
use mathlib.Core.Logic.{⊎_elim, inl, inr}
use Prim.Native.Nat.{ℕ, suc, ◌+◌, ◌*◌, ◌/◌, ◌%◌, ◌<◌, ◌≤◌}
use native.Mathlib.Nat.{not-suc-le-zero}
use native.Mathlib.Decide.{dec_lt, ℕ_discrete}
use native.Mathlib.Omega.{arith}
use borrow.Author.Tests.{eq-eqb, eqb-true, ltb-true}
use lib.Dec.{eqb}
use lib.ListN.{get_or, length}
use Rattle.lists.specs.Lists.{has, select, first, place}
use Rattle.lists.proofs.Bools.{clash}
use Rattle.lists.proofs.Members.{has_any, first_has, place_at}
use Rattle.lists.proofs.Select.{select_in, select_out}
use Rattle.lists.proofs.Order.{first_least, first_select, select_ascends}
use Rattle.lists.proofs.Counts.{select_empty}
use Rattle.lists.proofs.Sets.{same_has}
use Rattle.numbers.specs.Half.{cut, half_of}
use Rattle.numbers.specs.declared.Caps.{Caps}
use Rattle.shapes.specs.Shapes.{shape}
use Rattle.shapes.specs.Sizes.{most_marks, most_facets}
use Rattle.shapes.proofs.Facts.{facts}
use Rattle.store.specs.Fields.{Link}
use Rattle.store.specs.Slots.{InCell, read, code_in, corner_in, sibling_in}
use Rattle.map.specs.Cells.{Map, holds, facets_at}
use Rattle.map.specs.Sound.{Sound}
use Rattle.map.specs.Siblings.{is_half, Half, marks_of, sibling, border}
use Rattle.map.specs.Stars.{star, linked, group, halves_at}
use Rattle.laws.proofs.Anchors.{facets_linked, star_has, has_star, halves_has, has_halves, corner_half}
use Rattle.laws.proofs.StarGroups.{star_one_group, group_in_star}
use Rattle.laws.proofs.Cycles.{sibling_has, sibling_set, sibling_live, self_border}
use Rattle.laws.proofs.Facets.{siblings_dimension}
use Rattle.laws.proofs.Groups.{group_closed}
use Rattle.laws.proofs.Local.{half_inside}
use Rattle.picture.specs.State.{State, map_with}
use Rattle.picture.specs.Picture.{Pic, link}
use Rattle.picture.proofs.Record.{code_read, corner_read}
use Rattle.chain.proofs.Nexts.{First}
use Rattle.chain.proofs.Readied.{ready_linked}
use Rattle.border.specs.Corners.{bit_at, corner_bits, star_bits, corner_of, Other, Better}
use Rattle.border.specs.First.{star_halves, bordered, Beside, Stays, Out, FacetOut, Digits, CellOut, AllOut}
use Rattle.border.proofs.Words.{sib_is}
use Rattle.border.proofs.Firsts.{own_group}
use Rattle.border.proofs.Corners.{bit_zero, From, from_here}
use Rattle.border.proofs.Chained.{Along, along_start, along_end, along_here, along_more}
use Rattle.border.proofs.Cornered.{corner_held, facet_half, bit_half, half_bit}
use Rattle.border.proofs.Ending.{corner_at, in_chain}

-- the corner of a cell that is the mark
module _ (w : List ℕ) (caps : Caps) (c v : ℕ) where
  abbrev pub cornered : ℕ → Bool
  cornered k = eqb (corner_in w caps c k) v

  pub corner_found : (k : ℕ) → ((j : ℕ) → j < k → cornered j ≡ false) → cornered k ≡ true → k < most_marks → k ≡ corner_of w caps c v
  unfolding corner_of
  corner_found k before e h = sym (first_select 0 cornered most_marks k h e before)

  pub corner_none : (k : ℕ) → ((j : ℕ) → j < k → cornered j ≡ false) → k ≡ most_marks → 0 ≡ corner_of w caps c v
  unfolding corner_of first
  corner_none k before e = rw (select_empty cornered most_marks (rw e at before))

-- a facet or another
pub other_start : (bits g : ℕ) → Other bits g g
other_start bits g = record { one = inl refl }

pub other_more : (bits g f left found r : ℕ) → f < most_facets → From bits f left → Other bits g found → Better found f left r → Other bits g r
other_more bits g f left found r h a o b = record {
  one = ⊎_elim (λ e. rw e o.one) (λ q. inr (rw q.0 (h, sym (from_here bits f left a) ∙ q.1))) b.one;
}

pub other_again : (bits g k r : ℕ) → Other bits g k → Other bits k r → Other bits g r
other_again bits g k r a b = record { one = ⊎_elim (λ e. rw e a.one) inr b.one }

module _ (w : List ℕ) (caps : Caps) (s : State) (p : Pic w caps s) (v : ℕ) (b : Beside caps v s) where
  abbrev m : Map
  m = map_with caps s

  abbrev sound : Sound (map_with caps s)
  sound = b.settled.ready.sound

  -- the corner that is found is the mark's
  corner_is : (c : ℕ) → c < caps.cells → has v (s.at c).marks ≡ true
      → (corner_of w caps c v < length (s.at c).marks) × (get_or (s.at c).marks (corner_of w caps c v) 0 ≡ v)
  unfolding corner_of map_with
  corner_is c hc e =
      let j = place_at v (s.at c).marks e in
      let few : length (s.at c).marks ≤ most_marks = omega (arith, sound.fitting c, (facts (s.at c).code).marks) in
      let l : List ℕ = select (cornered w caps c v) most_marks in
      let there : has (place v (s.at c).marks) l ≡ true =
      select_in (cornered w caps c v) most_marks (place v (s.at c).marks) (omega (arith, j.0)) (eq-eqb _ v (corner_read w caps s p c hc (place v (s.at c).marks) (omega (arith, j.0)) ∙ j.1)) in
      let low : first 0 l ≤ place v (s.at c).marks = first_least 0 l (select_ascends (cornered w caps c v) most_marks) _ there in
      let r = select_out (cornered w caps c v) most_marks (first 0 l) (first_has 0 l _ there) in
      (omega (arith, j.0), sym (corner_read w caps s p c hc (first 0 l) r.0) ∙ eqb-true _ v r.1)

  -- another half-facet of the cell at the mark
  pub turn_stays : (h c t k bits facet f r : ℕ) → c ≡ h / 8 → t ≡ code_in w caps c → k ≡ corner_of w caps c v → bits ≡ corner_bits (shape t) (k % most_marks)
      → facet ≡ h % 8 → Other bits facet f → r ≡ half_of (cut c) (f % 8) → (g : List ℕ) → has h (halves_at m v g) ≡ true → has r (halves_at m v g) ≡ true
  unfolding half_of holds map_with
  turn_stays h c t k bits facet f r cell code corner digits own other half g e = ⊎_elim same another other.one
    where
      q : (h < 8 * m.caps.cells) × (has (h / 8) g ≡ true) × (is_half m h ≡ true) × (has v (marks_of m h) ≡ true)
      q = halves_has m v g h e

      below : c < caps.cells
      below = omega (arith, q.0)

      there : has c g ≡ true
      there = rw cell q.1

      same : f ≡ facet → has r (halves_at m v g) ≡ true
      same z = let back : h ≡ r = omega (arith, below, p.cells) in rw back at e

      another : (f < most_facets) × (bit_at bits f ≡ true) → has r (halves_at m v g) ≡ true
      another z =
          let held : has v (s.at c).marks ≡ true = rw cell (half_inside (map_with caps s) sound.fitting h v q.3) in
          let x = corner_is c below held in
          let few : length (s.at c).marks ≤ most_marks = omega (arith, sound.fitting c, (facts (s.at c).code).marks) in
          let small : k % most_marks ≡ corner_of w caps c v = omega (arith, x.0) in
          let mine : bits ≡ corner_bits (shape (s.at c).code) (corner_of w caps c v) = rw (digits, code, code_read w caps s p c below, small) in
          let mark : has v (get_or (facets_at m c) f []) ≡ true =
          sym (corner_held w caps s p v b c (corner_of w caps c v) below x.0 x.1 f z.0) ∙ (ap (λ (n : ℕ). bit_at n f) (sym mine) ∙ z.1) in
          let back : 8 * c + f ≡ r = omega (arith, below, p.cells, z.0) in
          rw back at (facet_half w caps s p v b c (corner_of w caps c v) below x.0 x.1 f mark g there)

  -- the sibling is in the group
  pub sibling_stays : (d c h : ℕ) → has h (halves_at m v (group m d v c)) ≡ true → has (sibling m h) (halves_at m v (group m d v c)) ≡ true
  unfolding group marks_of is_half
  sibling_stays d c h e =
      let r = halves_has m v (group m d v c) h e in
      let half : Half m h = record { below = r.0; facet = r.2 } in
      let k : ℕ = sibling m h in
      let live = sibling_live m h half in
      let same = sibling_set m h half in
      let held : has v (marks_of m k) ≡ true = sym (same_has _ _ same v) ∙ r.3 in
      let from = star_has m d v (h / 8) (group_in_star m d v c (h / 8) r.1) in
      let there : has (k / 8) (star m d v) ≡ true =
      has_star m d v (k / 8) (omega (arith, live.below)) (siblings_dimension m sound h k half (sibling_has m h half) ∙ from.1) (half_inside m sound.fitting k v held) in
      let joins : linked m v (h / 8) (k / 8) ≡ true =
      facets_linked m v (h / 8) (k / 8) (h % 8) (k % 8) (ltb-true _ _ half.facet) r.3 (ltb-true _ _ live.facet) same in
      has_halves m v (group m d v c) k live.below (group_closed (linked m v) (star m d v) c (h / 8) (k / 8) r.1 there joins) live.facet held

-- a walk that stays in each group of its start
abbrev pub Kept : List ℕ → Caps → ℕ → ℕ → ℕ → Type 0
Kept w caps v start h = (s : State) → Pic w caps s → Beside caps v s → (d c : ℕ)
    → has start (halves_at (map_with caps s) v (group (map_with caps s) d v c)) ≡ true → has h (halves_at (map_with caps s) v (group (map_with caps s) d v c)) ≡ true

module _ (w : List ℕ) (caps : Caps) (v start : ℕ) where
  module _ (h k : ℕ) (kept : Kept w caps v start h) (next : k ≡ sibling_in w caps h) where
    step : (s : State) (p : Pic w caps s) (b : Beside caps v s) (d c : ℕ) → has h (halves_at (map_with caps s) v (group (map_with caps s) d v c)) ≡ true
        → Half (map_with caps s) h × (k ≡ sibling (map_with caps s) h)
    step s p b d c e =
        let r = halves_has (map_with caps s) v (group (map_with caps s) d v c) h e in
        let half : Half (map_with caps s) h = record { below = r.0; facet = r.2 } in
        (half, next ∙ sib_is w caps s p b.settled h half)

    pub kept_more : (h' : ℕ) → Stays w caps v k h' → Kept w caps v start h'
    kept_more h' stays s p b d c e =
        let here = kept s p b d c e in
        stays.stays s p b (group (map_with caps s) d v c) (rw (step s p b d c here).1 (sibling_stays w caps s p v b d c h here))

    pub kept_out : k ≡ h → Out w caps v start true
    unfolding bordered
    kept_out z = record {
      out = λ _ s p b d c e _.
          let here = kept s p b d c e in
          let x = step s p b d c here in
          has_any (border (map_with caps s)) _ h here (self_border (map_with caps s) h x.0 (sym x.1 ∙ z));
    }

    -- a cell before its own, which is of its group
    pub kept_before : k / 8 < start / 8 → Out w caps v start true
    unfolding bordered
    kept_before l = record {
      out = λ _ s p b d c e before.
          let m : Map = map_with caps s in
          let here = kept s p b d c e in
          let there : has k (halves_at m v (group m d v c)) ≡ true = rw (step s p b d c here).1 (sibling_stays w caps s p v b d c h here) in
          let mine : has (k / 8) (group m d v c) ≡ true = (halves_has m v (group m d v c) k there).1 in
          rw (star_one_group m d v c (k / 8) mine) at (before (k / 8) (group_in_star m d v c (k / 8) mine) l);
    }

  pub out_not : Out w caps v start false
  out_not = record { out = λ e. absurd (clash e refl) }

-- from a facet of a cell, and from some
module _ (w : List ℕ) (caps : Caps) (v c : ℕ) where
  pub facet_out_not : (f left : ℕ) → FacetOut w caps v c f left false
  facet_out_not f left = record { digit = λ e. absurd (clash e refl); facet = out_not w caps v _ }

  pub facet_out_walk : (f left h : ℕ) (r : Bool) → bit_at left 0 ≡ true → h ≡ half_of (cut c) (f % 8) → Out w caps v h r → FacetOut w caps v c f left r
  facet_out_walk f left h r e q out = record { digit = λ _. e; facet = rw q at out }

  pub cell_out_not : (bits : ℕ) → CellOut w caps v c bits false
  cell_out_not bits = record { out = λ e. absurd (clash e refl) }

  pub cell_out_blank : (bits : ℕ) → bits ≡ 0 → CellOut w caps v c bits true
  unfolding map_with
  cell_out_blank bits e = record {
    out = λ _ s p b d digits there _.
        let m : Map = map_with caps s in
        let cell = star_has m d v c there in
        let h = corner_half m (record { count = b.settled.ready.sound.fitting }) v c cell.2 cell.0 in
        let half : has h.0 (star_halves m d v) ≡ true = has_halves m v (star m d v) h.0 h.4 (rw h.1 there) h.2 h.3 in
        absurd (clash (digits.digit h.0 half h.1).0 (rw e (bit_zero (h.0 % 8))));
  }

  pub cell_out_found : (bits f left : ℕ) (r : Bool) → From bits f left → f < most_facets → FacetOut w caps v c f left r → r ≡ true → CellOut w caps v c bits true
  unfolding half_of map_with
  cell_out_found bits f left r a h out e = record {
    out = λ _ s p b d digits there before.
        let m : Map = map_with caps s in
        let half = digits.half f h (sym (from_here bits f left a) ∙ out.digit e) in
        let cell : (8 * c + f) / 8 ≡ c = omega arith in
        let uncut : 8 * c + f ≡ 8 * cut c + f % 8 = omega (arith, (star_has m d v c there).0, p.cells) in
        let own : has (8 * c + f) (halves_at m v (group m d v c)) ≡ true = rw cell at (own_group m d v (8 * c + f) half) in
        out.facet.out e s p b d c (rw uncut at own) (λ k there l. before k there (omega (arith, l, uncut)));
  }

-- from each cell of a star, along the chain
module _ (caps : Caps) (s : State) (v : ℕ) (b : Beside caps v s) (d : ℕ) where
  pub record Outing (n y : ℕ) : Type 0 where
    pub lo : ℕ
    pub along : Along caps s v lo n y
    pub out : (c : ℕ) → has c (star (map_with caps s) d v) ≡ true → c < lo → bordered (map_with caps s) d v c ≡ true

  pub outing_start : (y : ℕ) → y ≡ link caps s v 0 → Outing 0 y
  outing_start y e = record { lo = 0; along = along_start caps s v y e; out = λ c there l. absurd (not-suc-le-zero l) }

  pub outing_end : (n y : ℕ) → Outing n y → y ≡ 0 → (c : ℕ) → has c (star (map_with caps s) d v) ≡ true → bordered (map_with caps s) d v c ≡ true
  outing_end n y a e c there = go (dec_lt c a.lo)
    where
      go : Dec (c < a.lo) → bordered (map_with caps s) d v c ≡ true
      go (yes l) = a.out c there l
      go (no f) =
          let r = in_chain caps s v b d c there in
          absurd (clash r.1 (along_end caps s v a.lo n y a.along e c (omega arith) r.0))

  module _ (n y i : ℕ) (a : Outing n y) (e : y ≡ suc i) where
    here : First (s.chain v) a.lo caps.cells (i / 8) × (i % 8 ≡ place v (s.at (i / 8)).marks)
    here = along_here caps s v (ready_linked caps s b.settled.ready) a.lo n y i a.along e

    at : (i % 8 < length (s.at (i / 8)).marks) × (get_or (s.at (i / 8)).marks (i % 8) 0 ≡ v)
    at = corner_at caps s (ready_linked caps s b.settled.ready) v (i / 8) (i % 8) here.0.here here.1

    pub outing_before : (c : ℕ) → has c (star (map_with caps s) d v) ≡ true → c < i / 8 → bordered (map_with caps s) d v c ≡ true
    outing_before c there l = go (dec_lt c a.lo)
      where
        go : Dec (c < a.lo) → bordered (map_with caps s) d v c ≡ true
        go (yes k) = a.out c there k
        go (no f) = absurd (clash (in_chain caps s v b d c there).1 (here.0.gap c (omega arith) l))

    pub outing_more : (w : List ℕ) → Pic w caps s → (bits : ℕ) → bits ≡ star_bits w caps d (i / 8) (i % 8) → (r : Bool) → CellOut w caps v (i / 8) bits r
        → r ≡ true → (y' : ℕ) → y' ≡ read w caps (InCell (i / 8) (Link (i % 8))) → Outing (n + 1) y'
    outing_more w p bits digits r out t y' q = record {
      lo = suc (i / 8);
      along = along_more caps s v (ready_linked caps s b.settled.ready) a.lo n y i a.along e w p y' q;
      out = λ c there l. go c there l (ℕ_discrete c (i / 8));
    }
      where
        mine : Digits caps s d v (i / 8) bits
        mine = rw digits (record {
          half = bit_half w caps s p v b (i / 8) (i % 8) here.0.high at.0 at.1 d;
          digit = half_bit w caps s p v b (i / 8) (i % 8) here.0.high at.0 at.1 d;
        })

        go : (c : ℕ) → has c (star (map_with caps s) d v) ≡ true → c < suc (i / 8) → Dec (c ≡ i / 8) → bordered (map_with caps s) d v c ≡ true
        go c there l (yes z) = rw z (out.out t s p b d mine (rw z at there) outing_before)
        go c there l (no f) = outing_before c there (omega arith)

pub all_out_not : (w : List ℕ) (caps : Caps) (d v b : ℕ) → AllOut w caps d v b false
all_out_not w caps d v b = record { out = λ e. absurd (clash e refl) }
