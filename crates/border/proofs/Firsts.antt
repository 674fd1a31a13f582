-- The law of the first anchor: it is the smaller of the least border at the mark and the least half-facet at the mark of a group
-- without a border; and the cases in which the groups need not be known.
use mathlib.Core.Path.{◌≡◌, refl, ap, ◌∙◌}
use mathlib.Core.Bool.{true, false}
use mathlib.Core.List.{List, [], ◌∷◌}
use mathlib.Core.Logic.{⊎_elim, ◌⊎◌, inl, inr}
use Prim.Native.Nat.{ℕ, zero, suc, ◌/◌, ◌<◌, ◌≤◌}
use native.Mathlib.Decide.{dec_lt}
use native.Mathlib.Omega.{arith}
use borrow.Author.Tests.{eq-eqb}
use lib.Dec.{eqb}
use Rattle.lists.specs.Lists.{has, keep, first}
use Rattle.lists.specs.Ascending.{Ascending}
use Rattle.lists.proofs.Bools.{clash, either, or_cases, or_left, or_right, not_false_true, not_of_false, not_true_false}
use Rattle.lists.proofs.Members.{any_has, has_any}
use Rattle.lists.proofs.Counts.{none_has}
use Rattle.lists.proofs.Keep.{keep_in, keep_out}
use Rattle.lists.proofs.Order.{keep_ascends, first_least}
use Rattle.map.specs.Cells.{Map}
use Rattle.map.specs.Sound.{Fitting}
use Rattle.map.specs.Siblings.{border}
use Rattle.map.specs.Stars.{star, group, halves_at, anchor, anchors}
use Rattle.laws.proofs.Anchors.{halves_has, has_halves, halves_ascend, group_of_star, anchor_border, anchor_least, anchors_of, anchors_ascend}
use Rattle.laws.proofs.StarGroups.{group_in_star}
use Rattle.laws.proofs.Anchored.{anchor_half}
use Rattle.laws.proofs.AnchorsListed.{anchors_listed}
use Rattle.picture.specs.State.{next}
use Rattle.border.specs.First.{star_halves, star_borders, bordered, leads}

-- the first of an ascending list
head_has : (x : ℕ) (xs : List ℕ) → has x (x ∷ xs) ≡ true
unfolding has
head_has x xs = or_left (eqb x x) (has x xs) (eq-eqb x x refl)

pub next_has : (l : List ℕ) (b : ℕ) → next l ≡ suc b → has b l ≡ true
unfolding next has
next_has [] b e = absurd (omega (arith, e))
next_has (x ∷ xs) b e = or_left (eqb x b) (has b xs) (eq-eqb x b (omega (arith, e)))

pub next_low : (l : List ℕ) → Ascending l → (b : ℕ) → next l ≡ suc b → (k : ℕ) → has k l ≡ true → b ≤ k
unfolding next has first
next_low [] up b e k h = absurd (omega (arith, e))
next_low (x ∷ xs) up b e k h = omega (arith, e, first_least 0 (x ∷ xs) up k h)

pub next_empty : (l : List ℕ) → next l ≡ 0 → (k : ℕ) → has k l ≡ true → ⊥
unfolding next has
next_empty [] e k h = clash h refl
next_empty (x ∷ xs) e k h = omega (arith, e)

pub empty_next : (l : List ℕ) → ((k : ℕ) → has k l ≡ true → ⊥) → next l ≡ 0
unfolding next
empty_next [] f = refl
empty_next (x ∷ xs) f = absurd (f x (head_has x xs))

pub next_least : (l : List ℕ) → Ascending l → (b : ℕ) → has b l ≡ true → ((k : ℕ) → has k l ≡ true → b ≤ k) → next l ≡ suc b
unfolding next has first
next_least [] up b h low = absurd (clash h refl)
next_least (x ∷ xs) up b h low = omega (arith, first_least 0 (x ∷ xs) up b h, low x (head_has x xs))

-- of two ascending lists, one within the other and with a number not above each of the other's, the firsts are one
next_same : (a b : List ℕ) → Ascending a → Ascending b → ((k : ℕ) → has k a ≡ true → has k b ≡ true)
    → ((x : ℕ) → has x b ≡ true → (k : ℕ) × (has k a ≡ true) × (k ≤ x)) → next a ≡ next b
next_same a b up up' inside below = go (next b) refl
  where
    go : (n : ℕ) → next b ≡ n → next a ≡ n
    go zero e = empty_next a (λ k h. next_empty b e k (inside k h))
    go (suc y) e =
        let r = below y (next_has b y e) in
        let same : r.0 ≡ y = omega (arith, r.2, next_low b up' y e r.0 (inside r.0 r.1)) in
        next_least a up y (rw same at r.1) (λ k h. next_low b up' y e k (inside k h))

module _ (m : Map) (d v : ℕ) where
  halves_up : Ascending (star_halves m d v)
  halves_up = halves_ascend m v (star m d v)

  -- a half-facet of the star is one of its cell's group
  pub own_group : (h : ℕ) → has h (star_halves m d v) ≡ true → has h (halves_at m v (group m d v (h / 8))) ≡ true
  own_group h e =
      let r = halves_has m v (star m d v) h e in
      has_halves m v (group m d v (h / 8)) h r.0 (group_of_star m d v (h / 8) r.1) r.2 r.3

  -- and one of a group is one of the star
  pub group_star : (c h : ℕ) → has h (halves_at m v (group m d v c)) ≡ true → has h (star_halves m d v) ≡ true
  group_star c h e =
      let r = halves_has m v (group m d v c) h e in
      has_halves m v (star m d v) h r.0 (group_in_star m d v c (h / 8) r.1) r.2 r.3

  -- the group of a border has one
  border_bordered : (h : ℕ) → has h (star_halves m d v) ≡ true → border m h ≡ true → bordered m d v (h / 8) ≡ true
  unfolding bordered
  border_bordered h e b = has_any (border m) (halves_at m v (group m d v (h / 8))) h (own_group h e) b

  module _ (fit : Fitting m) where
    anchor_leads : (k : ℕ) → has k (anchors m d v) ≡ true → has k (keep (leads m d v) (star_halves m d v)) ≡ true
    unfolding leads bordered
    anchor_leads k e = keep_in (leads m d v) (star_halves m d v) k (lead (either (border m k))) (group_star (k / 8) k half)
      where
        r : (has (k / 8) (star m d v) ≡ true) × (k ≡ anchor m v (group m d v (k / 8)))
        r = anchors_of m d v k e

        half : has k (halves_at m v (group m d v (k / 8))) ≡ true
        half = rw (← r.1) at (anchor_half m d v fit (k / 8) r.0)

        lead : (border m k ≡ true) ⊎ (border m k ≡ false) → leads m d v k ≡ true
        lead (inl b) = or_left _ _ b
        lead (inr b) = or_right (border m k) _ (not_of_false _ (not_true_false _ (λ t.
            let x = any_has (border m) (halves_at m v (group m d v (k / 8))) t in
            let a = anchor_border m v (group m d v (k / 8)) x.0 x.1 x.2 in
            clash (ap (border m) r.1 ∙ a.0) b)))

    -- the anchor of the group of a half-facet that leads is not above it
    lead_anchor : (x : ℕ) → has x (keep (leads m d v) (star_halves m d v)) ≡ true → (k : ℕ) × (has k (anchors m d v) ≡ true) × (k ≤ x)
    unfolding leads bordered
    lead_anchor x e =
        let q = keep_out (leads m d v) (star_halves m d v) x e in
        let g : List ℕ = group m d v (x / 8) in
        let own = own_group x q.1 in (
          anchor m v g,
          anchors_listed m d v fit (x / 8) (halves_has m v (star m d v) x q.1).1,
          ⊎_elim (λ b. (anchor_border m v g x own b).1)
              (λ n. anchor_least m v g (none_has (border m) (halves_at m v g) (not_false_true _ n)) x own)
              (or_cases _ _ q.0),
        )

    -- the first anchor is the least half-facet at the mark that is a border or lies in a group without one
    pub first_anchor : next (anchors m d v) ≡ next (keep (leads m d v) (star_halves m d v))
    first_anchor =
        next_same (anchors m d v) (keep (leads m d v) (star_halves m d v)) (anchors_ascend m d v)
        (keep_ascends (leads m d v) (star_halves m d v) halves_up) anchor_leads lead_anchor

    -- no border at the mark: the first half-facet at it
    pub first_borderless : next (star_borders m d v) ≡ 0 → next (anchors m d v) ≡ next (star_halves m d v)
    unfolding leads bordered
    first_borderless none =
        first_anchor
        ∙ next_same (keep (leads m d v) (star_halves m d v)) (star_halves m d v) (keep_ascends (leads m d v) (star_halves m d v) halves_up) halves_up
        (λ k h. (keep_out (leads m d v) (star_halves m d v) k h).1)
        (λ x h. (
          x,
          keep_in (leads m d v) (star_halves m d v) x (or_right (border m x) _ (not_of_false _ (not_true_false _ (λ t.
              let y = any_has (border m) (halves_at m v (group m d v (x / 8))) t in
              next_empty (star_borders m d v) none y.0 (keep_in (border m) (star_halves m d v) y.0 y.2 (group_star (x / 8) y.0 y.1)))))) h,
          omega arith,
        ))

    -- the groups of all cells before that of the least border have one: the least border
    pub first_border : (b : ℕ) → next (star_borders m d v) ≡ suc b → ((c : ℕ) → has c (star m d v) ≡ true → c < b / 8 → bordered m d v c ≡ true)
        → next (anchors m d v) ≡ suc b
    unfolding leads
    first_border b e before =
        first_anchor ∙ next_least (keep (leads m d v) (star_halves m d v)) (keep_ascends (leads m d v) (star_halves m d v) halves_up) b there low
      where
        own : (border m b ≡ true) × (has b (star_halves m d v) ≡ true)
        own = keep_out (border m) (star_halves m d v) b (next_has (star_borders m d v) b e)

        there : has b (keep (leads m d v) (star_halves m d v)) ≡ true
        there = keep_in (leads m d v) (star_halves m d v) b (or_left _ _ own.0) own.1

        least : (x : ℕ) → has x (star_halves m d v) ≡ true → border m x ≡ true → b ≤ x
        least x h t = next_low (star_borders m d v) (keep_ascends (border m) (star_halves m d v) halves_up) b e x (keep_in (border m) (star_halves m d v) x t h)

        low : (x : ℕ) → has x (keep (leads m d v) (star_halves m d v)) ≡ true → b ≤ x
        low x h =
            let q = keep_out (leads m d v) (star_halves m d v) x h in
            ⊎_elim (least x q.1) (λ n. go (not_false_true _ n) (dec_lt (x / 8) (b / 8)) (dec_lt x b)) (or_cases _ _ q.0)
          where
            go : bordered m d v (x / 8) ≡ false → Dec (x / 8 < b / 8) → Dec (x < b) → b ≤ x
            go n (yes l) k = absurd (clash (before (x / 8) (halves_has m v (star m d v) x (keep_out (leads m d v) (star_halves m d v) x h).1).1 l) n)
            go n (no f) (yes k) =
                let cell : b / 8 ≡ x / 8 = omega arith in
                absurd (clash (rw cell at (border_bordered b own.1 own.0)) n)
            go n (no f) (no g) = omega arith
