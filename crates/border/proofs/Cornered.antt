-- On the picture of a settled state the facets at a corner of a cell are the half-facets of the star there.
use mathlib.Core.Path.{◌≡◌, refl, sym, ap, ◌∙◌}
use mathlib.Core.Bool.{Bool, true, false, not, ◌||◌}
use mathlib.Core.List.{List, []}
use mathlib.Core.Logic.{⊎_elim}
use Prim.Native.Nat.{ℕ, suc, ◌+◌, ◌*◌, ◌/◌, ◌%◌, ◌<◌, ◌≤◌}
use native.Mathlib.Decide.{dec_lt, ℕ_discrete}
use native.Mathlib.Omega.{arith}
use borrow.Author.Tests.{eq-eqb, ne_eqb, ltb-true, lt-ltb, le-ltb}
use lib.ListN.{get_or, length}
use Rattle.lists.specs.Lists.{has, select, first}
use Rattle.lists.proofs.Bools.{clash, and_left, and_right, and_both, or_cases}
use Rattle.lists.proofs.Members.{at_has, first_has}
use Rattle.lists.proofs.Select.{select_in, select_out}
use Rattle.lists.proofs.Keep.{first_either}
use Rattle.lists.proofs.Order.{first_least, select_ascends}
use Rattle.numbers.specs.Half.{cut, half_of}
use Rattle.numbers.specs.declared.Caps.{Caps}
use Rattle.shapes.specs.Shapes.{shape}
use Rattle.shapes.specs.Sizes.{most_marks, most_facets, no_facet}
use Rattle.shapes.proofs.Facts.{facts}
use Rattle.map.specs.Cells.{Map, dimension_at, holds, facets_at}
use Rattle.map.specs.Siblings.{is_half, marks_of, border}
use Rattle.map.specs.Stars.{star, halves_at}
use Rattle.laws.proofs.Anchors.{half_facet, star_has, has_star, halves_has, has_halves}
use Rattle.laws.proofs.Facets.{facets_count}
use Rattle.laws.proofs.Halves.{half_live}
use Rattle.picture.specs.State.{State, map_with}
use Rattle.picture.specs.Picture.{Pic}
use Rattle.picture.proofs.Record.{code_read}
use Rattle.border.specs.Borders.{border_in, wanted_in}
use Rattle.border.specs.Corners.{bit_at, corner_bits, star_bits, facet_at_in, half_at_in}
use Rattle.border.specs.First.{star_halves, Beside}
use Rattle.border.proofs.Words.{facet_there, border_read}
use Rattle.border.proofs.Corners.{bit_zero, corner_bit, picks}

module _ (w : List ℕ) (caps : Caps) (s : State) (p : Pic w caps s) (v : ℕ) (b : Beside caps v s) where
  abbrev m : Map
  m = map_with caps s

  -- a half-facet has a facet's number
  half_few : (h : ℕ) → is_half m h ≡ true → h % 8 < most_facets
  unfolding is_half map_with
  half_few h e = omega (arith, ltb-true (h % 8) (length (facets_at m (h / 8))) e, facets_count m (h / 8), (facts (s.at (h / 8)).code).facets)

  module _ (c k : ℕ) (hc : c < caps.cells) (hk : k < length (s.at c).marks) (at : get_or (s.at c).marks k 0 ≡ v) where
    holds_here : holds m v c ≡ true
    unfolding holds map_with
    holds_here = rw (← at) (at_has (s.at c).marks k hk)

    pub corner_held : (f : ℕ) → f < most_facets → bit_at (corner_bits (shape (s.at c).code) k) f ≡ has v (get_or (facets_at m c) f [])
    unfolding map_with
    corner_held f h = rw at at (corner_bit (map_with caps s) b.settled.ready.sound c k hk f h)

    -- the half-facet of a facet that holds the mark
    pub facet_half : (f : ℕ) → has v (get_or (facets_at m c) f []) ≡ true → (g : List ℕ) → has c g ≡ true → has (8 * c + f) (halves_at m v g) ≡ true
    facet_half f e g there =
        let r = half_facet m c f (facet_there m c f v e) in
        has_halves m v g (8 * c + f) (half_live m b.settled.ready.sound (8 * c + f) r.1).below (rw r.0 there) r.1 (rw r.2 e)

    module _ (d : ℕ) where
      abbrev bits : ℕ
      bits = star_bits w caps d c k

      bits_other : (dimension_at m c ≡ d → ⊥) → bits ≡ 0
      unfolding star_bits dimension_at map_with
      bits_other f = rw (code_read w caps s p c hc, ne_eqb _ d f)

      bits_same : dimension_at m c ≡ d → bits ≡ corner_bits (shape (s.at c).code) k
      unfolding star_bits dimension_at map_with
      bits_same e =
          let small : k % most_marks ≡ k = omega (arith, b.settled.ready.sound.fitting c, (facts (s.at c).code).marks) in
          rw (code_read w caps s p c hc, eq-eqb _ d e, small)

      pub bit_half : (f : ℕ) → f < most_facets → bit_at bits f ≡ true → has (8 * c + f) (star_halves m d v) ≡ true
      unfolding map_with
      bit_half f h e = go (ℕ_discrete (dimension_at m c) d)
        where
          go : Dec (dimension_at m c ≡ d) → has (8 * c + f) (star_halves m d v) ≡ true
          go (yes q) =
              let held : has v (get_or (facets_at m c) f []) ≡ true = sym (corner_held f h) ∙ (ap (λ (x : ℕ). bit_at x f) (sym (bits_same q)) ∙ e) in
              facet_half f held (star m d v) (has_star m d v c hc q holds_here)
          go (no n) = absurd (clash e (ap (λ (x : ℕ). bit_at x f) (bits_other n) ∙ bit_zero f))

      pub half_bit : (h : ℕ) → has h (star_halves m d v) ≡ true → h / 8 ≡ c → (bit_at bits (h % 8) ≡ true) × (h % 8 < most_facets)
      unfolding marks_of
      half_bit h e z =
          let r = halves_has m v (star m d v) h e in
          let dim : dimension_at m c ≡ d = rw z at (star_has m d v (h / 8) r.1).1 in
          let few : h % 8 < most_facets = half_few h r.2 in
          let held : has v (get_or (facets_at m c) (h % 8) []) ≡ true = rw z at r.3 in
          (ap (λ (x : ℕ). bit_at x (h % 8)) (bits_same dim) ∙ (corner_held (h % 8) few ∙ held), few)

      abbrev test : Bool → ℕ → Bool
      test only = picks w caps c bits only

      -- those that are picked
      picked_half : (only : Bool) (f : ℕ) → f < most_facets → test only f ≡ true
          → (has (8 * c + f) (star_halves m d v) ≡ true) × (only ≡ true → border m (8 * c + f) ≡ true)
      unfolding wanted_in
      picked_half only f h e =
          let there = bit_half f h (and_left _ _ e) in
          let r = halves_has m v (star m d v) (8 * c + f) there in (
            there,
            λ o. sym (border_read w caps s p b.settled c f hc (omega arith) (record { below = r.0; facet = r.2 }))
                ∙ ⊎_elim (λ n. absurd (clash (sym (ap not o) ∙ n) refl)) (λ t. t) (or_cases (not only) _ (and_right (bit_at bits f) _ e)),
          )

      half_picked : (only : Bool) (h : ℕ) → has h (star_halves m d v) ≡ true → h / 8 ≡ c → (only ≡ true → border m h ≡ true)
          → (h % 8 < most_facets) × (test only (h % 8) ≡ true)
      unfolding wanted_in
      half_picked only h e z f =
          let x = half_bit h e z in
          let r = halves_has m v (star m d v) h e in
          let same : 8 * c + h % 8 ≡ h = omega arith in
          (x.1, and_both _ _ x.0 (tail only f (border_read w caps s p b.settled c (h % 8) hc (omega arith) (rw same (record { below = r.0; facet = r.2 })) ∙ ap (border m) same)))
        where
          tail : (only : Bool) → (only ≡ true → border m h ≡ true) → border_in w caps c (h % 8) ≡ border m h → not only || border_in w caps c (h % 8) ≡ true
          tail false f q = refl
          tail true f q = q ∙ f refl

      -- the first of them
      pub half_none : (only : Bool) → half_at_in w caps c bits only ≡ 0 → (h : ℕ) → has h (star_halves m d v) ≡ true → h / 8 ≡ c
          → (only ≡ true → border m h ≡ true) → ⊥
      unfolding half_at_in facet_at_in
      half_none only e h there z f =
          let x = half_picked only h there z f in
          let l : List ℕ = select (test only) most_facets in
          let y = select_out (test only) most_facets (first no_facet l) (first_has no_facet l (h % 8) (select_in (test only) most_facets (h % 8) x.0 x.1)) in
          let less : first no_facet l < no_facet = omega (arith, y.0) in
          omega (arith, rw (lt-ltb (first no_facet l) no_facet less) at e)

      pub half_some : (only : Bool) (x : ℕ) → half_at_in w caps c bits only ≡ suc x
          → (has x (star_halves m d v) ≡ true) × (only ≡ true → border m x ≡ true) × (x / 8 ≡ c)
          × ((h : ℕ) → has h (star_halves m d v) ≡ true → h / 8 ≡ c → (only ≡ true → border m h ≡ true) → x ≤ h)
      unfolding half_at_in facet_at_in half_of
      half_some only x e = go (dec_lt f no_facet)
        where
          l : List ℕ
          l = select (test only) most_facets

          f : ℕ
          f = first no_facet l

          go : Dec (f < no_facet) → (has x (star_halves m d v) ≡ true) × (only ≡ true → border m x ≡ true) × (x / 8 ≡ c)
              × ((h : ℕ) → has h (star_halves m d v) ≡ true → h / 8 ≡ c → (only ≡ true → border m h ≡ true) → x ≤ h)
          go (no n) = absurd (omega (arith, rw (le-ltb f no_facet (omega arith)) at e))
          go (yes less) =
              let q = ⊎_elim (λ z. absurd (omega arith)) (λ t. select_out (test only) most_facets f t) (first_either no_facet l) in
              let value : 8 * cut c + f % 8 + 1 ≡ suc x = rw (lt-ltb f no_facet less) at e in
              let same : 8 * c + f ≡ x = omega (arith, p.cells) in
              let y = picked_half only f q.0 q.1 in (
                rw same at y.0,
                rw same at y.1,
                omega arith,
                λ h there z g.
                    let t = half_picked only h there z g in
                    let low : f ≤ h % 8 = first_least no_facet l (select_ascends (test only) most_facets) (h % 8) (select_in (test only) most_facets (h % 8) t.0 t.1) in
                    omega arith,
              )
