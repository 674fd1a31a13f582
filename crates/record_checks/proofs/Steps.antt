-- The steps of the checks: a corner's tests one after another, the facets behind the last, and the walks of a chain.
use mathlib.Core.Path.{◌≡◌, refl, sym, ap, ◌∙◌}
use mathlib.Core.Bool.{Bool, true, false, not, ◌&&◌, ◌||◌}
use mathlib.Core.List.{List}
use Prim.Native.Nat.{ℕ, zero, suc, ◌+◌, ◌-◌, ◌/◌, ◌%◌, ◌<◌, ◌≤◌}
use native.Mathlib.Numerals.{add-one}
use native.Mathlib.Omega.{arith}
use borrow.Author.Tests.{eq-eqb, ne_eqb, lt-ltb, le-ltb, le-leb, lt-leb}
use lib.Dec.{eqb, leb, ltb}
use lib.ListN.{get_or, length}
use Rattle.lists.specs.Lists.{every}
use Rattle.lists.proofs.Bools.{and_no, and_yes}
use Rattle.lists.proofs.Every.{every_at, at_every, every_more, every_stop}
use Rattle.numbers.specs.Half.{cut, half_of}
use Rattle.numbers.specs.declared.Caps.{Caps}
use Rattle.shapes.specs.Sizes.{most_facets}
use Rattle.store.specs.Fields.{First, Held, Sib, Link, Far}
use Rattle.store.specs.Slots.{InMark, InCell, read, corner_in}
use Rattle.facet.specs.Facet.{marks_in}
use Rattle.record_checks.specs.Laid.{bare, far_mark, corner_right, facet_right, licence_right, link_behind, stands, goes, meets_from, chain_right, meets}
use Rattle.numbers.specs.Sizes.{most_around}
use Rattle.store.specs.Layout.{near_marks}

-- a word of a kind: before the nth any, from the nth on 0
pub bare_before : (n k x : ℕ) → k < n → bare n k x ≡ true
unfolding bare
bare_before n k x h = rw (lt-ltb k n h)

pub bare_behind : (n k x : ℕ) → n ≤ k → bare n k x ≡ eqb x 0
unfolding bare
bare_behind n k x h = rw (le-ltb k n h)

-- a licence: of a live cell any, else 0
pub licence_live : (t code licence : ℕ) → t ≡ code → (t ≡ 0 → ⊥) → true ≡ licence_right code licence
unfolding licence_right
licence_live t code licence e some = rw (ne_eqb code 0 (λ z. some (e ∙ z))) refl

pub licence_dead : (t code x licence : ℕ) → t ≡ code → t ≡ 0 → x ≡ licence → eqb x 0 ≡ licence_right code licence
unfolding licence_right
licence_dead t code x licence e none f = rw (eq-eqb code 0 (sym e ∙ none), f) refl

-- marks in the second part
module _ (marks : List ℕ) (k : ℕ) where
  pub far_none : length marks ≤ near_marks → far_mark marks k ≡ 0
  unfolding far_mark
  far_none h = rw (le-ltb near_marks (length marks) h)

  pub far_all : near_marks < length marks → far_mark marks k ≡ get_or marks k 0
  unfolding far_mark
  far_all h = rw (lt-ltb near_marks (length marks) h)

-- the tests of a corner, one after another
module _ (w : List ℕ) (caps : Caps) (c k : ℕ) (marks : List ℕ) (v x : ℕ) (corner : v ≡ corner_in w caps c k) (mark : x ≡ get_or marks k 0) where
  pub corner_other : (v ≡ x → ⊥) → false ≡ corner_right w caps c marks k
  unfolding corner_right
  corner_other f = rw (← corner, ← mark) (and_no (eqb v x) _ (ne_eqb v x f))

  module _ (same : v ≡ x) (y z : ℕ) (far : y ≡ read w caps (InCell c (Far k))) (again : z ≡ far_mark marks k) where
    -- what is left once the mark stands in the first part
    left : corner_right w caps c marks k ≡ eqb y z && bare (length marks) k (read w caps (InCell c (Link k)))
    unfolding corner_right
    left = rw (← corner, ← mark, ← far, ← again, eq-eqb v x same)

    pub corner_again : (y ≡ z → ⊥) → false ≡ corner_right w caps c marks k
    corner_again f = and_no (eqb y z) _ (ne_eqb y z f) ∙ sym left

    module _ (same-far : y ≡ z) where
      pub corner_within : k < length marks → true ≡ corner_right w caps c marks k
      corner_within h = and_yes (eqb y z) _ true (eq-eqb y z same-far) (sym (bare_before (length marks) k (read w caps (InCell c (Link k))) h)) ∙ sym left

      pub corner_behind : (l : ℕ) → length marks ≤ k → l ≡ read w caps (InCell c (Link k)) → eqb l 0 ≡ corner_right w caps c marks k
      corner_behind l h e =
          and_yes (eqb y z) _ (eqb l 0) (eq-eqb y z same-far)
          (ap (λ (i : ℕ). eqb i 0) e ∙ sym (bare_behind (length marks) k (read w caps (InCell c (Link k))) h))
          ∙ sym left

-- the facets from the nth on, looked at one after another
module _ (w : List ℕ) (caps : Caps) (c n : ℕ) where
  pub facets_start : every n (facet_right w caps c n) ≡ true
  unfolding facet_right
  facets_start = at_every (facet_right w caps c n) n (λ f h. bare_before n f (read w caps (InCell (cut c) (Sib f))) h)

  -- the stored sibling as it is read
  module _ (f h x : ℕ) (low : n ≤ f) (less : f < most_facets) (half : h ≡ half_of (cut c) (f % 8)) (sib : x ≡ read w caps (InCell (h / 8) (Sib (h % 8)))) where
    facet_read : facet_right w caps c n f ≡ eqb x 0
    unfolding facet_right half_of
    facet_read =
        let a : h / 8 ≡ cut c = omega arith in
        let b : h % 8 ≡ f = omega arith in
        let same : x ≡ read w caps (InCell (cut c) (Sib f)) = rw (a, b) at sib in
        bare_behind n f (read w caps (InCell (cut c) (Sib f))) low ∙ ap (λ (y : ℕ). eqb y 0) (sym same)

    pub facets_stop : (x ≡ 0 → ⊥) → false ≡ every most_facets (facet_right w caps c n)
    facets_stop g = every_stop (facet_right w caps c n) most_facets f less (facet_read ∙ ne_eqb x 0 g)

    pub facets_more : every f (facet_right w caps c n) ≡ true → x ≡ 0 → every (f + 1) (facet_right w caps c n) ≡ true
    facets_more e z = every_more (facet_right w caps c n) f e (facet_read ∙ eq-eqb x 0 z)

  pub facets_end : (f : ℕ) → every f (facet_right w caps c n) ≡ true → most_facets ≤ f → true ≡ every most_facets (facet_right w caps c n)
  facets_end f e h = sym (at_every (facet_right w caps c n) most_facets (λ k l. every_at (facet_right w caps c n) f e k (omega arith)))

-- whether a cell may stand in a chain: the tests, one after another
module _ (w : List ℕ) (caps : Caps) (v low c k : ℕ) where
  pub stands_early : c < low → false ≡ stands w caps v low c k
  unfolding stands
  stands_early h = and_no (leb low c) _ (lt-leb low c h)

  module _ (from : low ≤ c) where
    pub stands_past : caps.cells ≤ c → false ≡ stands w caps v low c k
    unfolding stands
    stands_past h = and_yes (leb low c) _ false (le-leb low c from) (and_no (ltb c caps.cells) _ (le-ltb c caps.cells h))

    module _ (below : c < caps.cells) (marks : List ℕ) (same : marks ≡ marks_in w caps c) where
      left_marks : stands w caps v low c k ≡ ltb k (length marks) && eqb (get_or marks k 0) v
      unfolding stands
      left_marks = rw (← same, le-leb low c from, lt-ltb c caps.cells below)

      pub stands_few : length marks ≤ k → false ≡ stands w caps v low c k
      stands_few h = and_no (ltb k (length marks)) _ (le-ltb k (length marks) h) ∙ sym left_marks

      pub stands_here : k < length marks → eqb (get_or marks k 0) v ≡ stands w caps v low c k
      stands_here h = and_yes (ltb k (length marks)) _ (eqb (get_or marks k 0) v) (lt-ltb k (length marks) h) refl ∙ sym left_marks

-- the walk that looks for a cell: the answer is that of the rest
module _ (w : List ℕ) (caps : Caps) (c first : ℕ) where
  abbrev pub Looking : ℕ → ℕ → Type 0
  Looking n link = meets_from w caps c most_around first ≡ meets_from w caps c (most_around - n) link

  pub look_none : (n link : ℕ) → Looking n link → link ≡ 0 → false ≡ meets_from w caps c most_around first
  unfolding meets_from
  look_none n link e z = sym (e ∙ go (most_around - n) link z)
    where
      go : (k link : ℕ) → link ≡ 0 → meets_from w caps c k link ≡ false
      go zero link z = refl
      go (suc k) zero z = refl
      go (suc k) (suc at) z = absurd (omega arith)

  -- one cell of the chain
  look_one : (n link at : ℕ) → n < most_around → link ≡ suc at
      → meets_from w caps c (most_around - n) link ≡ eqb (at / 8) c || meets_from w caps c (most_around - (n + 1)) (link_behind w caps at)
  unfolding meets_from
  look_one n link at h l =
      let k : most_around - n ≡ suc (most_around - (n + 1)) = omega arith in
      ap (λ (i : ℕ). meets_from w caps c i link) k ∙ ap (meets_from w caps c (suc (most_around - (n + 1)))) l

  pub look_here : (n link at : ℕ) → Looking n link → n < most_around → link ≡ suc at → at / 8 ≡ c → true ≡ meets_from w caps c most_around first
  look_here n link at e h l z = sym (e ∙ (look_one n link at h l ∙ rw (eq-eqb (at / 8) c z)))

  pub look_more : (n link at x : ℕ) → Looking n link → n < most_around → link ≡ suc at → (at / 8 ≡ c → ⊥) → x ≡ read w caps (InCell (at / 8) (Link (at % 8)))
      → Looking (n + 1) x
  unfolding link_behind
  look_more n link at x e h l g q = e ∙ (look_one n link at h l ∙ rw (ne_eqb (at / 8) c g, q))

  pub look_full : (n link : ℕ) → Looking n link → most_around ≤ n → false ≡ meets_from w caps c most_around first
  unfolding meets_from
  look_full n link e h = let k : most_around - n ≡ 0 = omega arith in sym (e ∙ ap (λ (i : ℕ). meets_from w caps c i link) k)

-- as it begins at a mark
pub looked : (w : List ℕ) (caps : Caps) (c v first : ℕ) (r : Bool) → first ≡ read w caps (InMark v First) → r ≡ meets_from w caps c most_around first → r ≡ meets w caps c v
unfolding meets
looked w caps c v first r e q = rw (← e) q

-- the walk that holds a chain to the rules: the answer is that of the rest
module _ (w : List ℕ) (caps : Caps) (v : ℕ) where
  abbrev pub Going : ℕ → ℕ → ℕ → Type 0
  Going n link low = chain_right w caps v ≡ goes w caps v (most_around - n) link low n

  pub go_start : (x : ℕ) → x ≡ read w caps (InMark v First) → Going 0 x 0
  unfolding chain_right
  go_start x e = rw e

  pub go_end : (n link low count : ℕ) → Going n link low → link ≡ 0 → count ≡ read w caps (InMark v Held) → eqb count n ≡ chain_right w caps v
  unfolding goes
  go_end n link low count e z q = sym (e ∙ go (most_around - n) link z)
    where
      go : (k link : ℕ) → link ≡ 0 → goes w caps v k link low n ≡ eqb count n
      go zero link z = rw (eq-eqb link 0 z, q)
      go (suc k) zero z = rw q
      go (suc k) (suc d) z = absurd (omega arith)

  -- one cell of the chain
  go_one : (n link at low : ℕ) → n < most_around → link ≡ suc at
      → goes w caps v (most_around - n) link low n
      ≡ stands w caps v low (at / 8) (at % 8) && goes w caps v (most_around - (n + 1)) (link_behind w caps at) (at / 8 + 1) (n + 1)
  unfolding goes
  go_one n link at low h l =
      let k : most_around - n ≡ suc (most_around - (n + 1)) = omega arith in
      rw (k, l, add-one n, add-one (at / 8))

  pub go_no : (n link at low : ℕ) → Going n link low → n < most_around → link ≡ suc at → stands w caps v low (at / 8) (at % 8) ≡ false → false ≡ chain_right w caps v
  go_no n link at low e h l g = sym (e ∙ (go_one n link at low h l ∙ rw g))

  pub go_more : (n link at low x : ℕ) → Going n link low → n < most_around → link ≡ suc at → stands w caps v low (at / 8) (at % 8) ≡ true
      → x ≡ read w caps (InCell (at / 8) (Link (at % 8))) → Going (n + 1) x (at / 8 + 1)
  unfolding link_behind
  go_more n link at low x e h l g q = e ∙ (go_one n link at low h l ∙ rw (g, q))

  -- a chain of more than 128 cells
  pub go_full : (n link low : ℕ) → Going n link low → most_around ≤ n → (link ≡ 0 → ⊥) → false ≡ chain_right w caps v
  unfolding goes
  go_full n link low e h f =
      let k : most_around - n ≡ 0 = omega arith in
      sym (e ∙ (ap (λ (i : ℕ). goes w caps v i link low n) k ∙ rw (ne_eqb link 0 f)))
