-- Whether the head agrees with the entries, test by test.
use mathlib.Core.Path.{◌≡◌, refl, sym, ap, ◌∙◌}
use mathlib.Core.Bool.{Bool, true, false, cond, ◌&&◌, ◌||◌}
use mathlib.Core.List.{List}
use Prim.Native.Nat.{ℕ, ◌+◌, ◌-◌, ◌<◌, ◌≤◌}
use native.Mathlib.Omega.{arith}
use borrow.Author.Tests.{le-leb, lt-leb, leb-true, eq-eqb, ne_eqb, eqb-true, eqb-false}
use lib.Dec.{eqb, leb}
use Rattle.lists.proofs.Bools.{clash}
use Rattle.journal_store.specs.Days.{most_day}
use Rattle.journal_store.specs.Journals.{entries_in, last_in, ever_in, fold_in, day_in}
use Rattle.journal_whole.specs.Checks.{head_good}

module _ (j : List ℕ) where
  module _ (none : entries_in j ≡ 0) where
    pub none_last : (last_in j ≡ 0 → ⊥) → false ≡ head_good j
    unfolding head_good
    none_last f = rw (eq-eqb (entries_in j) 0 none, ne_eqb (last_in j) 0 f)

    module _ (last : last_in j ≡ 0) where
      pub none_ever : (ever_in j ≡ 0 → ⊥) → false ≡ head_good j
      unfolding head_good
      none_ever f = rw (eq-eqb (entries_in j) 0 none, eq-eqb (last_in j) 0 last, ne_eqb (ever_in j) 0 f)

      pub none_fold : ever_in j ≡ 0 → (fold : ℕ) → fold ≡ fold_in j → eqb fold 0 ≡ head_good j
      unfolding head_good
      none_fold e fold ef = rw (eq-eqb (entries_in j) 0 none, eq-eqb (last_in j) 0 last, eq-eqb (ever_in j) 0 e, ef)

  module _ (some : entries_in j ≡ 0 → ⊥) where
    pub some_ever : (ever_in j ≡ 1 → ⊥) → false ≡ head_good j
    unfolding head_good
    some_ever f = rw (ne_eqb (entries_in j) 0 some, ne_eqb (ever_in j) 1 f)

    module _ (ever : ever_in j ≡ 1) where
      module _ (n d : ℕ) (en : n ≡ entries_in j) (ed : d ≡ day_in j (n - 1)) where
        day_is : d ≡ day_in j (entries_in j - 1)
        day_is = ed ∙ ap (λ (x : ℕ). day_in j (x - 1)) en

        pub some_last : (last_in j ≡ d → ⊥) → false ≡ head_good j
        unfolding head_good
        some_last f =
            rw (ne_eqb (entries_in j) 0 some, eq-eqb (ever_in j) 1 ever, ne_eqb (last_in j) (day_in j (entries_in j - 1)) (λ q. f (q ∙ sym day_is)))

        module _ (last : last_in j ≡ d) where
          pub some_day : most_day < last_in j → false ≡ head_good j
          unfolding head_good
          some_day h =
              rw (
                ne_eqb (entries_in j) 0 some,
                eq-eqb (ever_in j) 1 ever,
                eq-eqb (last_in j) (day_in j (entries_in j - 1)) (last ∙ day_is),
                lt-leb (last_in j) most_day h,
              )

          module _ (few : last_in j ≤ most_day) where
            pub some_none : fold_in j ≡ 0 → true ≡ head_good j
            unfolding head_good
            some_none e =
                rw (
                  ne_eqb (entries_in j) 0 some,
                  eq-eqb (ever_in j) 1 ever,
                  eq-eqb (last_in j) (day_in j (entries_in j - 1)) (last ∙ day_is),
                  le-leb (last_in j) most_day few,
                  eq-eqb (fold_in j) 0 e,
                )

            pub some_fold : (fold_in j ≡ 0 → ⊥) → (fold l : ℕ) → fold ≡ fold_in j → l ≡ last_in j → leb (fold + 365) l ≡ head_good j
            unfolding head_good
            some_fold f fold l ef el =
                rw (
                  ne_eqb (entries_in j) 0 some,
                  eq-eqb (ever_in j) 1 ever,
                  eq-eqb (last_in j) (day_in j (entries_in j - 1)) (last ∙ day_is),
                  le-leb (last_in j) most_day few,
                  ne_eqb (fold_in j) 0 f,
                  ef,
                  el,
                )

  -- what a good head tells
  pub record Good : Type 0 where
    pub none : entries_in j ≡ 0 → ((last_in j ≡ 0) × (ever_in j ≡ 0)) × (fold_in j ≡ 0)
    pub some : (entries_in j ≡ 0 → ⊥) → (ever_in j ≡ 1) × (last_in j ≡ day_in j (entries_in j - 1))
    pub few : last_in j ≤ most_day
    pub year : 0 < fold_in j → fold_in j + 365 ≤ last_in j

  pub head_good_lem : head_good j ≡ true → Good
  unfolding head_good
  head_good_lem e =
      go (eqb (entries_in j) 0) refl (eqb (last_in j) 0) refl (eqb (ever_in j) 0) refl (eqb (fold_in j) 0) refl (eqb (ever_in j) 1) refl
      (eqb (last_in j) (day_in j (entries_in j - 1))) refl (leb (last_in j) most_day) refl (leb (fold_in j + 365) (last_in j)) refl e
    where
      go : (a : Bool) → eqb (entries_in j) 0 ≡ a → (b : Bool) → eqb (last_in j) 0 ≡ b → (c : Bool) → eqb (ever_in j) 0 ≡ c → (d : Bool) → eqb (fold_in j) 0 ≡ d
          → (v : Bool) → eqb (ever_in j) 1 ≡ v → (w : Bool) → eqb (last_in j) (day_in j (entries_in j - 1)) ≡ w → (x : Bool) → leb (last_in j) most_day ≡ x
          → (y : Bool) → leb (fold_in j + 365) (last_in j) ≡ y → cond a (b && (c && d)) (v && (w && (x && (d || y)))) ≡ true → Good
      go true ea true eb true ec true ed v ev w ew x ex y ey q =
          let z : last_in j ≡ 0 = eqb-true _ _ eb in
          let n : entries_in j ≡ 0 = eqb-true _ _ ea in
          let f : fold_in j ≡ 0 = eqb-true _ _ ed in
          record { none = λ k. ((z, eqb-true _ _ ec), f); some = λ k. absurd (k n); few = omega arith; year = λ h. absurd (omega arith) }
      go true ea false eb c ec d ed v ev w ew x ex y ey q = absurd (clash q refl)
      go true ea true eb false ec d ed v ev w ew x ex y ey q = absurd (clash q refl)
      go true ea true eb true ec false ed v ev w ew x ex y ey q = absurd (clash q refl)
      go false ea b eb c ec true ed true ev true ew true ex y ey q =
          let n : entries_in j ≡ 0 → ⊥ = eqb-false _ _ ea in
          let f : fold_in j ≡ 0 = eqb-true _ _ ed in
          record { none = λ k. absurd (n k); some = λ k. (eqb-true _ _ ev, eqb-true _ _ ew); few = leb-true _ _ ex; year = λ h. absurd (omega arith) }
      go false ea b eb c ec false ed true ev true ew true ex true ey q =
          let n : entries_in j ≡ 0 → ⊥ = eqb-false _ _ ea in
          record { none = λ k. absurd (n k); some = λ k. (eqb-true _ _ ev, eqb-true _ _ ew); few = leb-true _ _ ex; year = λ h. leb-true _ _ ey }
      go false ea b eb c ec false ed true ev true ew true ex false ey q = absurd (clash q refl)
      go false ea b eb c ec d ed false ev w ew x ex y ey q = absurd (clash q refl)
      go false ea b eb c ec d ed true ev false ew x ex y ey q = absurd (clash q refl)
      go false ea b eb c ec d ed true ev true ew false ex y ey q = absurd (clash q refl)

  -- and a head that tells it is good
  pub good_head : Good → (n : Bool) → eqb (entries_in j) 0 ≡ n → head_good j ≡ true
  unfolding head_good
  good_head g true e =
      let z : entries_in j ≡ 0 = eqb-true _ _ e in
      let h = g.none z in
      rw (e, eq-eqb (last_in j) 0 h.0.0, eq-eqb (ever_in j) 0 h.0.1, eq-eqb (fold_in j) 0 h.1)
  good_head g false e =
      let f : entries_in j ≡ 0 → ⊥ = eqb-false _ _ e in
      let h = g.some f in
      rw (e, eq-eqb (ever_in j) 1 h.0, eq-eqb (last_in j) (day_in j (entries_in j - 1)) h.1, le-leb (last_in j) most_day g.few) (fold (eqb (fold_in j) 0) refl)
    where
      fold : (d : Bool) → eqb (fold_in j) 0 ≡ d → eqb (fold_in j) 0 || leb (fold_in j + 365) (last_in j) ≡ true
      fold true q = rw q
      fold false q =
          let f : fold_in j ≡ 0 → ⊥ = eqb-false _ _ q in
          rw (q, le-leb (fold_in j + 365) (last_in j) (g.year (omega arith)))
