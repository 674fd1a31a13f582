-- What each test of the second half decides: true exactly where the state is right in that.
use mathlib.Core.Path.{◌≡◌, refl, sym, ap, ◌∙◌}
use mathlib.Core.Bool.{Bool, true, false, not, ◌&&◌, ◌||◌}
use mathlib.Core.List.{List}
use mathlib.Core.Logic.{⊎_elim}
use Prim.Native.Nat.{ℕ, zero, suc, ◌+◌, ◌-◌, ◌*◌, ◌/◌, ◌%◌, ◌<◌, ◌≤◌}
use native.Mathlib.Decide.{ℕ_discrete}
use native.Mathlib.Omega.{arith}
use borrow.Author.Tests.{eq-eqb, ne_eqb, eqb-true, ltb-true, lt-ltb}
use lib.Dec.{eqb, ltb}
use lib.ListN.{get_or, length}
use Rattle.lists.specs.Lists.{has, any, same_set, select, every}
use Rattle.lists.proofs.Bools.{clash, and_left, and_right, and_both, or_cases, or_left, or_right, not_true_false, not_false_true, not_of_false, either}
use Rattle.lists.proofs.Members.{at_has}
use Rattle.lists.proofs.Sets.{same_has, same_sym}
use Rattle.lists.proofs.Select.{select_in, select_same}
use Rattle.lists.proofs.Counts.{none_has, has_none}
use Rattle.lists.proofs.Every.{every_at, at_every}
use Rattle.numbers.specs.Half.{half_of}
use Rattle.shapes.specs.Shapes.{shape, facet_count}
use Rattle.shapes.specs.Sizes.{most_facets, most_code}
use Rattle.shapes.proofs.Facts.{facts}
use Rattle.shapes.proofs.Types.{type_marks}
use Rattle.numbers.specs.declared.Caps.{Caps}
use Rattle.map.specs.Cells.{Map, live, holds, dimension_at, facets_at, cells_of}
use Rattle.map.specs.Siblings.{is_half, Half, siblings, sibling}
use Rattle.map.specs.Ways.{way_number, way_at, way}
use Rattle.map.specs.Stars.{holders, anchors}
use Rattle.map.proofs.Ways.{way_back}
use Rattle.map.specs.Sound.{Sound, TwoSolids}
use Rattle.laws.proofs.Halves.{half_live}
use Rattle.picture.specs.State.{State, next, map_with}
use Rattle.picture.specs.Picture.{Pic}
use Rattle.picture.specs.Ready.{Ready, Settled}
use Rattle.store.specs.Fields.{Count}
use Rattle.store.specs.Slots.{InHead, read, code_in}
use Rattle.laws.proofs.Facets.{facets_count}
use Rattle.picture.proofs.Record.{code_read}
use Rattle.record_checks.specs.Upright.{Upright}
use Rattle.whole.proofs.Readings.{few_two, two_few}
use Rattle.whole.specs.SecondHalf.{twin_of, lone_of, few_in, sib_right, facet_right, facets_right, anc_right, ancs_right, count_in, count_right}

module _ (caps : Caps) (s : State) where
  -- no two cells the same
  pub lone_alone : Upright caps s → every caps.cells (lone_of (map_with caps s)) ≡ true
      → (a b : ℕ) → live (map_with caps s) a ≡ true → (s.at a).code ≡ (s.at b).code → same_set (s.at a).marks (s.at b).marks ≡ true → a ≡ b
  unfolding lone_of twin_of live holds holders map_with dimension_at
  lone_alone u e a b alive code same = go (ℕ_discrete b a)
    where
      coded : (s.at a).code ≡ 0 → ⊥
      coded z = clash alive (ap not (eq-eqb (s.at a).code 0 z))

      b_alive : not (eqb (s.at b).code 0) ≡ true
      b_alive = ap (λ (t : ℕ). not (eqb t 0)) (sym code) ∙ alive

      some : 0 < length (s.at a).marks
      some = omega (arith, u.fitting a, type_marks (s.at a).code (u.typed a alive))

      v : ℕ
      v = get_or (s.at a).marks 0 0

      held : has (get_or (s.at a).marks 0 0) (s.at b).marks ≡ true
      held = sym (same_has (s.at a).marks (s.at b).marks same (get_or (s.at a).marks 0 0)) ∙ at_has (s.at a).marks 0 some

      listed : has b (select (λ c. has (get_or (s.at a).marks 0 0) (s.at c).marks) caps.cells) ≡ true
      listed = select_in (λ c. has (get_or (s.at a).marks 0 0) (s.at c).marks) caps.cells b (u.below b b_alive) held

      twin : Bool
      twin = not (eqb b a) && (eqb (s.at b).code (s.at a).code && same_set (s.at b).marks (s.at a).marks)

      none : not (eqb b a) && (eqb (s.at b).code (s.at a).code && same_set (s.at b).marks (s.at a).marks) ≡ false
      none =
          ⊎_elim (λ (z : eqb (s.at a).code 0 ≡ true). absurd (coded (eqb-true (s.at a).code 0 z)))
          (λ n. none_has (λ k. not (eqb k a) && (eqb (s.at k).code (s.at a).code && same_set (s.at k).marks (s.at a).marks))
          (select (λ c. has (get_or (s.at a).marks 0 0) (s.at c).marks) caps.cells) (not_false_true _ n) b listed)
          (or_cases (eqb (s.at a).code 0) _ (every_at (lone_of (map_with caps s)) caps.cells e a (u.below a alive)))

      go : Dec (b ≡ a) → a ≡ b
      go (yes z) = sym z
      go (no f) =
          absurd (clash
          (and_both (not (eqb b a)) _ (ap not (ne_eqb b a f))
          (and_both (eqb (s.at b).code (s.at a).code) _ (eq-eqb (s.at b).code (s.at a).code (sym code)) (same_sym (s.at a).marks (s.at b).marks same)))
          none)

  pub ready_lone : Ready caps s → every caps.cells (lone_of (map_with caps s)) ≡ true
  unfolding lone_of twin_of live map_with
  ready_lone r = at_every (lone_of (map_with caps s)) caps.cells (λ c h. one c (eqb (s.at c).code 0) refl)
    where
      one : (c : ℕ) (b : Bool) → eqb (s.at c).code 0 ≡ b
          → b || not (any (twin_of (map_with caps s) c) (holders (map_with caps s) (get_or (s.at c).marks 0 0))) ≡ true
      one c true e = refl
      one c false e =
          not_of_false _
          (has_none (twin_of (map_with caps s) c) (holders (map_with caps s) (get_or (s.at c).marks 0 0))
          (λ k t.
          not_true_false (twin_of (map_with caps s) c k) (λ twin.
          let other : not (eqb k c) ≡ true = and_left (not (eqb k c)) _ twin in
          let rest = and_right (not (eqb k c)) _ twin in
          let code : (s.at k).code ≡ (s.at c).code = eqb-true (s.at k).code (s.at c).code (and_left (eqb (s.at k).code (s.at c).code) _ rest) in
          let same : same_set (s.at k).marks (s.at c).marks ≡ true = and_right (eqb (s.at k).code (s.at c).code) _ rest in
          let alive : not (eqb (s.at k).code 0) ≡ true = ap (λ (t : ℕ). not (eqb t 0)) code ∙ ap not e in
          clash other (ap not (eq-eqb k c (r.sound.alone k c alive code same))))))

  -- the first anchors
  pub ancs_right_lem : every caps.marks (ancs_right caps s) ≡ true
      → (v d : ℕ) → v < caps.marks → 1 ≤ d → d ≤ 3 → s.anc d v ≡ next (anchors (map_with caps s) d v)
  unfolding ancs_right anc_right
  ancs_right_lem e v d h low high =
      let z : d - 1 + 1 ≡ d = omega arith in
      let one = every_at (anc_right caps s v) 3 (every_at (ancs_right caps s) caps.marks e v h) (d - 1) (omega arith) in
      rw z at (eqb-true (s.anc (d - 1 + 1) v) (next (anchors (map_with caps s) (d - 1 + 1) v)) one)

  pub right_ancs : ((v d : ℕ) → v < caps.marks → 1 ≤ d → d ≤ 3 → s.anc d v ≡ next (anchors (map_with caps s) d v))
      → every caps.marks (ancs_right caps s) ≡ true
  unfolding ancs_right anc_right
  right_ancs f =
      at_every (ancs_right caps s) caps.marks
      (λ v h. at_every (anc_right caps s v) 3 (λ d l. eq-eqb (s.anc (d + 1) v) (next (anchors (map_with caps s) (d + 1) v)) (f v (d + 1) h (omega arith) (omega arith))))

module _ (w : List ℕ) (caps : Caps) (s : State) (p : Pic w caps s) where
  -- the facets of a cell, by its record
  pub facets_read : (c : ℕ) → c < caps.cells → facet_count (code_in w caps c) ≡ length (facets_at (map_with caps s) c)
  unfolding facet_count map_with
  facets_read c h = ap (λ (t : ℕ). length (shape t).facets) (code_read w caps s p c h) ∙ sym (facets_count (map_with caps s) c)

  -- each facet of a cell that passes: as many share it as may, and its sibling is right
  module _ (e : every caps.cells (facets_right w caps s) ≡ true) (h : ℕ) (below : h < 8 * caps.cells) (half : is_half (map_with caps s) h ≡ true) where
    facet_at_lem : facet_right caps s (h / 8) (h % 8) ≡ true
    unfolding facets_right is_half
    facet_at_lem =
        let cell : h / 8 < caps.cells = omega arith in
        let less : h % 8 < facet_count (code_in w caps (h / 8)) = omega (arith, ltb-true (h % 8) (length (facets_at (map_with caps s) (h / 8))) half, facets_read (h / 8) cell) in
        every_at (facet_right caps s (h / 8)) (facet_count (code_in w caps (h / 8))) (every_at (facets_right w caps s) caps.cells e (h / 8) cell) (h % 8) less

    whole_half : half_of (h / 8) (h % 8) ≡ h
    unfolding half_of
    whole_half = omega arith

    facet_few : few_in caps (s.at (h / 8)).code (length (siblings (map_with caps s) h)) ≡ true
    unfolding facet_right
    facet_few = rw whole_half at (and_left (few_in caps (s.at (h / 8)).code (length (siblings (map_with caps s) (half_of (h / 8) (h % 8))))) _ facet_at_lem)

    facet_stored : eqb (s.sib h) (sibling (map_with caps s) h) && eqb (way_number (s.way h)) (way_number (way (map_with caps s) h)) ≡ true
    unfolding facet_right sib_right
    facet_stored = rw whole_half at (and_right (few_in caps (s.at (h / 8)).code (length (siblings (map_with caps s) (half_of (h / 8) (h % 8))))) _ facet_at_lem)

    facet_sib : s.sib h ≡ sibling (map_with caps s) h
    facet_sib = eqb-true (s.sib h) (sibling (map_with caps s) h) (and_left _ _ facet_stored)

    facet_way : s.way h ≡ way (map_with caps s) h
    facet_way =
        let same : way_number (s.way h) ≡ way_number (way (map_with caps s) h) = eqb-true _ _ (and_right (eqb (s.sib h) (sibling (map_with caps s) h)) _ facet_stored) in
        sym (way_back (s.way h)) ∙ (ap way_at same ∙ way_back (way (map_with caps s) h))

  -- the siblings and their ways, and two solids at most on a face
  pub sibs_settled : Ready caps s → every caps.cells (facets_right w caps s) ≡ true → Settled caps s
  unfolding map_with
  sibs_settled r e = record {
    ready = r;
    siblings = λ h half. facet_sib e h (half_live (map_with caps s) r.sound h half).below half;
    ways = λ h half. facet_way e h (half_live (map_with caps s) r.sound h half).below half;
  }

  pub sibs_two : every caps.cells (facets_right w caps s) ≡ true → TwoSolids (map_with caps s)
  unfolding map_with dimension_at
  sibs_two e = record {
    most = λ second h half solid.
        few_two caps (s.at (h / 8)).code (length (siblings (map_with caps s) h)) (facet_few e h half.below half.facet) second solid;
  }

  pub settled_sibs : Settled caps s → TwoSolids (map_with caps s) → every caps.cells (facets_right w caps s) ≡ true
  unfolding facets_right facet_right sib_right half_of is_half facet_count map_with dimension_at
  settled_sibs t two =
      at_every (facets_right w caps s) caps.cells
      (λ c h.
      at_every (facet_right caps s c) (facet_count (code_in w caps c))
      (λ f l.
      let few : f < most_facets = omega (arith, (facts (code_in w caps c)).facets) in
      let half = is_half_lem c f h l few in
      let cell : (8 * c + f) / 8 ≡ c = omega arith in
      and_both _ _
      (two_few caps (s.at c).code (length (siblings (map_with caps s) (8 * c + f)))
      (λ second solid. two.most second (8 * c + f) (record { below = omega arith; facet = half }) (rw cell solid)))
      (and_both (eqb (s.sib (8 * c + f)) (sibling (map_with caps s) (8 * c + f))) _
      (eq-eqb (s.sib (8 * c + f)) (sibling (map_with caps s) (8 * c + f)) (t.siblings (8 * c + f) half))
      (eq-eqb (way_number (s.way (8 * c + f))) (way_number (way (map_with caps s) (8 * c + f))) (ap way_number (t.ways (8 * c + f) half))))))
    where
      is_half_lem : (c f : ℕ) → c < caps.cells → f < facet_count (code_in w caps c) → f < most_facets → ltb ((8 * c + f) % 8) (length (facets_at (map_with caps s) ((8 * c + f) / 8))) ≡ true
      is_half_lem c f h l few =
          let a : (8 * c + f) / 8 ≡ c = omega arith in
          let b : (8 * c + f) % 8 ≡ f = omega arith in
          rw (a, b) (lt-ltb f (length (facets_at (map_with caps s) c)) (omega (arith, facets_read c h)))

  -- the live counts
  count_cells : (t : ℕ) → count_in w caps t ≡ length (cells_of (map_with caps s) t)
  unfolding count_in cells_of map_with
  count_cells t =
      ap length
      (select_same (λ c. eqb (code_in w caps c) t) (λ c. eqb (s.at c).code t) caps.cells (λ c h. ap (λ (k : ℕ). eqb k t) (code_read w caps s p c h)))

  pub counts_right : every most_code (count_right w caps) ≡ true → (t : ℕ) → 1 ≤ t → t ≤ most_code → read w caps (InHead (Count t)) ≡ length (cells_of (map_with caps s) t)
  unfolding count_right
  counts_right e t low high =
      let b : t - 1 + 1 ≡ t = omega arith in
      (rw b at (eqb-true (read w caps (InHead (Count (t - 1 + 1)))) (count_in w caps (t - 1 + 1)) (every_at (count_right w caps) most_code e (t - 1) (omega arith)))) ∙ count_cells t

  pub right_counts : ((t : ℕ) → 1 ≤ t → t ≤ most_code → read w caps (InHead (Count t)) ≡ length (cells_of (map_with caps s) t)) → every most_code (count_right w caps) ≡ true
  unfolding count_right
  right_counts f =
      at_every (count_right w caps) most_code
      (λ t h. eq-eqb (read w caps (InHead (Count (t + 1)))) (count_in w caps (t + 1)) (f (t + 1) (omega arith) (omega arith) ∙ sym (count_cells (t + 1))))
