-- What a chain that passes the walk is: with every holder of the mark on it, its links are those of the picture. And a chain of a
-- picture passes, and meets each holder.
use mathlib.Core.Path.{◌≡◌, refl, sym, ap, ◌∙◌}
use mathlib.Core.Bool.{Bool, true, false, ◌||◌}
use mathlib.Core.List.{List}
use mathlib.Core.Logic.{⊎_elim}
use Prim.Native.Nat.{ℕ, zero, suc, ◌+◌, ◌*◌, ◌/◌, ◌%◌, ◌<◌, ◌≤◌}
use native.Mathlib.Decide.{ℕ_discrete}
use native.Mathlib.Omega.{arith}
use borrow.Author.Tests.{eqb-true, leb-true, ltb-true, eq-eqb, le-leb, lt-ltb}
use lib.Dec.{eqb, leb, ltb}
use lib.ListN.{get_or, length, length-append}
use Rattle.lists.specs.Lists.{has, place, repeats, select}
use Rattle.lists.proofs.Bools.{clash, and_left, and_right, and_both, or_cases, or_left, or_right, not_true_false}
use Rattle.lists.proofs.Members.{at_has, place_is}
use Rattle.numbers.specs.declared.Caps.{Caps}
use Rattle.store.specs.Fields as field
use Rattle.store.specs.Slots.{InMark, InCell, read}
use Rattle.facet.specs.Facet.{marks_in}
use Rattle.picture.specs.State.{State}
use Rattle.picture.specs.Picture.{Pic, chain_of, ahead, link_to, link, corner}
use Rattle.chain.specs.Chain.{Linked}
use Rattle.chain.proofs.Nexts.{None, First, first_from, from_none, from_first, none_from, first_from_lem, from_full, select_gap, select_first}
use Rattle.chain.proofs.Places.{head_word_lem, count_word, link_word_lem, link_says, corner_there}
use Rattle.record_checks.specs.Laid.{link_behind, stands, goes, meets_from, chain_right, meets}
use Rattle.numbers.specs.Sizes.{most_around}

-- one more passes where the first from low on does
first_more : (p : ℕ → Bool) (low hi d n : ℕ) → First p low hi d → n ≡ length (select p low) → suc n ≡ length (select p (suc d))
first_more p low hi d n g q =
    let more : length (select p (suc d)) ≡ length (select p low) + 1 = rw (select_first p low hi d g, length-append) refl in
    omega (arith, more, q)

module _ (w : List ℕ) (caps : Caps) where
  -- no cell is met behind the end
  met_none : (k x : ℕ) → meets_from w caps x k 0 ≡ false
  unfolding meets_from
  met_none zero x = refl
  met_none (suc k) x = refl

module _ (w : List ℕ) (caps : Caps) (v : ℕ) where
  -- what a cell on the way is
  module _ (low c k : ℕ) (e : stands w caps v low c k ≡ true) where
    stands_low : low ≤ c
    unfolding stands
    stands_low = leb-true low c (and_left (leb low c) _ e)

    stands_below : c < caps.cells
    unfolding stands
    stands_below = ltb-true c caps.cells (and_left (ltb c caps.cells) _ (and_right (leb low c) _ e))

    stands_corner : k < length (marks_in w caps c)
    unfolding stands
    stands_corner =
        ltb-true k (length (marks_in w caps c))
        (and_left (ltb k (length (marks_in w caps c))) _ (and_right (ltb c caps.cells) _ (and_right (leb low c) _ e)))

    stands_mark : get_or (marks_in w caps c) k 0 ≡ v
    unfolding stands
    stands_mark =
        eqb-true (get_or (marks_in w caps c) k 0) v
        (and_right (ltb k (length (marks_in w caps c))) _ (and_right (ltb c caps.cells) _ (and_right (leb low c) _ e)))

  module _ (k at low n : ℕ) (e : goes w caps v (suc k) (suc at) low n ≡ true) where
    now_stands : stands w caps v low (at / 8) (at % 8) ≡ true
    unfolding goes
    now_stands = and_left (stands w caps v low (at / 8) (at % 8)) _ e

    then_goes : goes w caps v k (link_behind w caps at) (suc (at / 8)) (suc n) ≡ true
    unfolding goes
    then_goes = and_right (stands w caps v low (at / 8) (at % 8)) _ e

    now_low : low ≤ at / 8
    now_low = stands_low low (at / 8) (at % 8) now_stands

    now_below : at / 8 < caps.cells
    now_below = stands_below low (at / 8) (at % 8) now_stands

  -- cells that are met lie from low on
  met_low : (k y low n x : ℕ) → goes w caps v k y low n ≡ true → meets_from w caps x k y ≡ true → low ≤ x
  unfolding meets_from
  met_low zero y low n x e met = absurd (clash met refl)
  met_low (suc k) zero low n x e met = absurd (clash met refl)
  met_low (suc k) (suc at) low n x e met =
      ⊎_elim (λ (h : eqb (at / 8) x ≡ true). omega (arith, eqb-true (at / 8) x h, now_low k at low n e))
      (λ (h : meets_from w caps x k (link_behind w caps at) ≡ true).
      omega (arith, met_low k (link_behind w caps at) (suc (at / 8)) (suc n) x (then_goes k at low n e) h, now_low k at low n e))
      (or_cases (eqb (at / 8) x) (meets_from w caps x k (link_behind w caps at)) met)

  -- no more cells follow than there are steps
  goes_few : (k y low n : ℕ) → goes w caps v k y low n ≡ true → read w caps (InMark v field.Held) ≤ n + k
  unfolding goes
  goes_few zero y low n e = omega (arith, eqb-true (read w caps (InMark v field.Held)) n (and_right (eqb y 0) _ e))
  goes_few (suc k) zero low n e = omega (arith, eqb-true (read w caps (InMark v field.Held)) n e)
  goes_few (suc k) (suc at) low n e = omega (arith, goes_few k (link_behind w caps at) (suc (at / 8)) (suc n) (then_goes k at low n e))

  pub chain_few : chain_right w caps v ≡ true → read w caps (InMark v field.Held) ≤ most_around
  unfolding chain_right
  chain_few e = goes_few most_around (read w caps (InMark v field.First)) 0 0 e

  -- where a link is the end, the count is what was passed
  goes_end : (k low n : ℕ) → goes w caps v k 0 low n ≡ true → read w caps (InMark v field.Held) ≡ n
  unfolding goes
  goes_end zero low n e = eqb-true (read w caps (InMark v field.Held)) n e
  goes_end (suc k) low n e = eqb-true (read w caps (InMark v field.Held)) n e

  -- a state that tells the marks of the records, each once, and whose chain of v are the holders of v
  module _ (s : State) (told : (c : ℕ) → c < caps.cells → (s.at c).marks ≡ marks_in w caps c) (once : (c : ℕ) → repeats (s.at c).marks ≡ false)
      (chained : (c : ℕ) → s.chain v c ≡ has v (s.at c).marks) where
    -- a mark stands at one corner of a cell
    place_one : (c j : ℕ) → j < length (s.at c).marks → get_or (s.at c).marks j 0 ≡ v → place v (s.at c).marks ≡ j
    place_one c j h e = ap (λ (x : ℕ). place x (s.at c).marks) (sym e) ∙ place_is (s.at c).marks (once c) j h

    place_chain : (c j : ℕ) → j < length (s.at c).marks → get_or (s.at c).marks j 0 ≡ v → s.chain v c ≡ true
    place_chain c j h e = chained c ∙ (ap (λ (x : ℕ). has x (s.at c).marks) (sym e) ∙ at_has (s.at c).marks j h)

    -- a cell that may stand in the chain holds the mark at the corner that the link says
    module _ (low c k : ℕ) (e : stands w caps v low c k ≡ true) where
      there : (k < length (s.at c).marks) × (get_or (s.at c).marks k 0 ≡ v)
      there =
          let same = told c (stands_below low c k e) in
          (omega (arith, stands_corner low c k e, ap length same), ap (λ (l : List ℕ). get_or l k 0) same ∙ stands_mark low c k e)

      stands_place : place v (s.at c).marks ≡ k
      stands_place = place_one c k there.0 there.1

      stands_chain : s.chain v c ≡ true
      stands_chain = place_chain c k there.0 there.1

    -- each holder from low on is met
    abbrev Met : ℕ → ℕ → ℕ → Type 0
    Met k y low = (x : ℕ) → low ≤ x → x < caps.cells → s.chain v x ≡ true → meets_from w caps x k y ≡ true

    met_rest : (k at low : ℕ) → low ≤ at / 8 → Met (suc k) (suc at) low → Met k (link_behind w caps at) (suc (at / 8))
    unfolding meets_from
    met_rest k at low l f x a b t =
        ⊎_elim (λ (h : eqb (at / 8) x ≡ true). absurd (omega (arith, eqb-true (at / 8) x h)))
        (λ (h : meets_from w caps x k (link_behind w caps at) ≡ true). h)
        (or_cases (eqb (at / 8) x) (meets_from w caps x k (link_behind w caps at)) (f x (omega arith) b t))

    met_end : (k low : ℕ) → Met k 0 low → None (s.chain v) low caps.cells
    met_end k low f x a b = not_true_false (s.chain v x) (λ t. clash (f x a b t) (met_none w caps k x))

    -- so a link leads to the first holder from low on
    met_first : (k at low n : ℕ) → goes w caps v (suc k) (suc at) low n ≡ true → Met (suc k) (suc at) low → First (s.chain v) low caps.cells (at / 8)
    unfolding meets_from
    met_first k at low n e f = record {
      low = now_low k at low n e;
      high = now_below k at low n e;
      here = stands_chain low (at / 8) (at % 8) (now_stands k at low n e);
      gap = λ x a b.
          not_true_false (s.chain v x) (λ t.
          ⊎_elim (λ (h : eqb (at / 8) x ≡ true). omega (arith, eqb-true (at / 8) x h))
          (λ (h : meets_from w caps x k (link_behind w caps at) ≡ true).
          omega (arith, met_low k (link_behind w caps at) (suc (at / 8)) (suc n) x (then_goes k at low n e) h))
          (or_cases (eqb (at / 8) x) (meets_from w caps x k (link_behind w caps at)) (f x a (omega (arith, now_below k at low n e)) t)));
    }

    link_end : (low : ℕ) → None (s.chain v) low caps.cells → link caps s v low ≡ 0
    unfolding link ahead chain_of link_to
    link_end low none = ap (link_to s.at v) (none_from (s.chain v) caps.cells low none)

    link_is : (k y low n : ℕ) → goes w caps v k y low n ≡ true → Met k y low → y ≡ link caps s v low
    unfolding goes meets_from link ahead chain_of link_to
    link_is zero y low n e f = eqb-true y 0 (and_left (eqb y 0) _ e) ∙ sym (link_end low (met_end zero low f))
    link_is (suc k) zero low n e f = sym (link_end low (met_end (suc k) low f))
    link_is (suc k) (suc at) low n e f =
        let here : suc at ≡ link_to s.at v (suc (at / 8)) = omega (arith, stands_place low (at / 8) (at % 8) (now_stands k at low n e)) in
        here ∙ ap (link_to s.at v) (sym (first_from_lem (s.chain v) caps.cells low (at / 8) (met_first k at low n e f)))

    -- behind each cell that is met stands, at the corner of the mark, the link to the next
    behind_is : (k y low n c j : ℕ) → goes w caps v k y low n ≡ true → Met k y low → meets_from w caps c k y ≡ true → j < length (s.at c).marks
        → get_or (s.at c).marks j 0 ≡ v → read w caps (InCell c (field.Link j)) ≡ link caps s v (suc c)
    unfolding meets_from link_behind
    behind_is zero y low n c j e f met h q = absurd (clash met refl)
    behind_is (suc k) zero low n c j e f met h q = absurd (clash met refl)
    behind_is (suc k) (suc at) low n c j e f met h q =
        go (ℕ_discrete (at / 8) c) (λ met. behind_is k (link_behind w caps at) (suc (at / 8)) (suc n) c j (then_goes k at low n e) rest met h q)
      where
        rest : Met k (link_behind w caps at) (suc (at / 8))
        rest = met_rest k at low (now_low k at low n e) f

        go : Dec (at / 8 ≡ c) → (meets_from w caps c k (link_behind w caps at) ≡ true → read w caps (InCell c (field.Link j)) ≡ link caps s v (suc c))
            → read w caps (InCell c (field.Link j)) ≡ link caps s v (suc c)
        go (yes z) ih =
            let corner : at % 8 ≡ j =
            sym (stands_place low (at / 8) (at % 8) (now_stands k at low n e)) ∙ (ap (λ (i : ℕ). place v (s.at i).marks) z ∙ place_one c j h q) in
            rw (z, corner) at (link_is k (link_behind w caps at) (suc (at / 8)) (suc n) (then_goes k at low n e) rest)
        go (no g) ih =
            ih
            (⊎_elim (λ (h : eqb (at / 8) c ≡ true). absurd (g (eqb-true (at / 8) c h))) (λ (h : meets_from w caps c k (link_behind w caps at) ≡ true). h)
            (or_cases (eqb (at / 8) c) (meets_from w caps c k (link_behind w caps at)) met))

    -- and the count is that of the holders
    count_end : (k low n : ℕ) → goes w caps v k 0 low n ≡ true → Met k 0 low → low ≤ caps.cells → n ≡ length (select (s.chain v) low)
        → read w caps (InMark v field.Held) ≡ length (select (s.chain v) caps.cells)
    count_end k low n e f l count =
        goes_end k low n e ∙ (count ∙ ap length (sym (select_gap (s.chain v) low caps.cells l (met_end k low f))))

    count_is : (k y low n : ℕ) → goes w caps v k y low n ≡ true → Met k y low → low ≤ caps.cells → n ≡ length (select (s.chain v) low)
        → read w caps (InMark v field.Held) ≡ length (select (s.chain v) caps.cells)
    unfolding goes meets_from
    count_is zero y low n e f l count =
        let z : y ≡ 0 = eqb-true y 0 (and_left (eqb y 0) _ e) in
        count_end zero low n (ap (λ (x : ℕ). goes w caps v zero x low n) (sym z) ∙ e) f l count
    count_is (suc k) zero low n e f l count = count_end (suc k) low n e f l count
    count_is (suc k) (suc at) low n e f l count =
        let first = met_first k at low n e f in
        count_is k (link_behind w caps at) (suc (at / 8)) (suc n) (then_goes k at low n e) (met_rest k at low first.low f) first.high
        (first_more (s.chain v) low caps.cells (at / 8) n first count)

    -- the whole chain
    module _ (e : chain_right w caps v ≡ true) (f : (x : ℕ) → x < caps.cells → s.chain v x ≡ true → meets w caps x v ≡ true) where
      pub head_right : read w caps (InMark v field.First) ≡ link caps s v 0
      unfolding chain_right meets
      head_right = link_is most_around (read w caps (InMark v field.First)) 0 0 e (λ x a b t. f x b t)

      pub count_right_lem : read w caps (InMark v field.Held) ≡ length (chain_of caps s v)
      unfolding chain_right meets chain_of select
      count_right_lem = count_is most_around (read w caps (InMark v field.First)) 0 0 e (λ x a b t. f x b t) (omega arith) refl

      pub behind_right : (c j : ℕ) → c < caps.cells → j < length (s.at c).marks → get_or (s.at c).marks j 0 ≡ v
          → read w caps (InCell c (field.Link j)) ≡ link caps s v (suc c)
      unfolding chain_right meets
      behind_right c j b h q =
          behind_is most_around (read w caps (InMark v field.First)) 0 0 c j e (λ x a b t. f x b t) (f c b (place_chain c j h q)) h q

  -- the other way: on the picture of a state whose chains are linked
  module _ (s : State) (p : Pic w caps s) (l : Linked caps s) (h : v < caps.marks)
      (told : (c : ℕ) → c < caps.cells → (s.at c).marks ≡ marks_in w caps c) where
    first_stands : (low d : ℕ) → First (s.chain v) low caps.cells d → stands w caps v low d (place v (s.at d).marks) ≡ true
    unfolding stands corner
    first_stands low d g =
        let there = corner_there caps s l v d g.here in
        and_both (leb low d) _ (le-leb low d g.low)
        (and_both (ltb d caps.cells) _ (lt-ltb d caps.cells g.high)
        (rw (← told d g.high)
        (and_both (ltb (place v (s.at d).marks) (length (s.at d).marks)) _ (lt-ltb (place v (s.at d).marks) (length (s.at d).marks) there.0)
        (eq-eqb (get_or (s.at d).marks (place v (s.at d).marks) 0) v there.1))))

    none_left : (low n : ℕ) → low ≤ caps.cells → n ≡ length (select (s.chain v) low) → first_from (s.chain v) caps.cells low ≡ 0
        → read w caps (InMark v field.Held) ≡ n
    unfolding chain_of
    none_left low n a q z =
        count_word w caps s p v h
        ∙ (ap length (select_gap (s.chain v) low caps.cells a (from_none (s.chain v) caps.cells low z)) ∙ sym q)

    -- the link to a cell of the chain: what it says, and the link behind it
    module _ (low d : ℕ) (g : First (s.chain v) low caps.cells d) where
      at : ℕ
      at = 8 * d + place v (s.at d).marks

      at_says : (at / 8 ≡ d) × (at % 8 ≡ place v (s.at d).marks)
      unfolding at link_to
      at_says = link_says caps s l v d at g.here refl

      at_behind : link_behind w caps at ≡ link_to s.at v (first_from (s.chain v) caps.cells (suc d))
      unfolding at link_to link_behind link ahead chain_of
      at_behind = link_word_lem w caps s p l v d at g.high g.here refl

    goes_on : (k low n : ℕ) → low ≤ caps.cells → n ≡ length (select (s.chain v) low) → length (select (s.chain v) caps.cells) ≤ n + k
        → (x : ℕ) → first_from (s.chain v) caps.cells low ≡ x → goes w caps v k (link_to s.at v x) low n ≡ true
    unfolding goes link_to at
    goes_on zero low n a q few x e =
        let z : first_from (s.chain v) caps.cells low ≡ 0 = from_full (s.chain v) low caps.cells n (omega (arith, q)) (omega (arith, few)) in
        and_both (eqb (link_to s.at v x) 0) _ (eq-eqb (link_to s.at v x) 0 (ap (link_to s.at v) (sym e ∙ z)))
        (eq-eqb (read w caps (InMark v field.Held)) n (none_left low n a q z))
    goes_on (suc k) low n a q few zero e = eq-eqb (read w caps (InMark v field.Held)) n (none_left low n a q e)
    goes_on (suc k) low n a q few (suc d) e =
        let g = from_first (s.chain v) caps.cells low d e in
        let says = at_says low d g in
        and_both (stands w caps v low (at low d g / 8) (at low d g % 8)) _ (rw (says.0, says.1) (first_stands low d g))
        (rw (says.0, at_behind low d g)
        (goes_on k (suc d) (suc n) g.high (first_more (s.chain v) low caps.cells d n g q) (omega (arith, few)) (first_from (s.chain v) caps.cells (suc d)) refl))

    meets_on : (k low n c : ℕ) → low ≤ c → c < caps.cells → s.chain v c ≡ true → n ≡ length (select (s.chain v) low)
        → length (select (s.chain v) caps.cells) ≤ n + k → (x : ℕ) → first_from (s.chain v) caps.cells low ≡ x
        → meets_from w caps c k (link_to s.at v x) ≡ true
    unfolding meets_from link_to at
    meets_on zero low n c a b t q few x e =
        let z : first_from (s.chain v) caps.cells low ≡ 0 = from_full (s.chain v) low caps.cells n (omega (arith, q)) (omega (arith, few)) in
        absurd (clash t (from_none (s.chain v) caps.cells low z c a b))
    meets_on (suc k) low n c a b t q few zero e = absurd (clash t (from_none (s.chain v) caps.cells low e c a b))
    meets_on (suc k) low n c a b t q few (suc d) e =
        rw (at_says low d g).0
        (go (ℕ_discrete d c)
        (λ past.
        rw (at_behind low d g)
        (meets_on k (suc d) (suc n) c past b t (first_more (s.chain v) low caps.cells d n g q) (omega (arith, few)) (first_from (s.chain v) caps.cells (suc d)) refl)))
      where
        g : First (s.chain v) low caps.cells d
        g = from_first (s.chain v) caps.cells low d e

        past : (d ≡ c → ⊥) → suc d ≤ c
        past f =
            let over : c < d → ⊥ = λ less. clash t (g.gap c a less) in
            omega (arith, f, over)

        go : Dec (d ≡ c) → (suc d ≤ c → meets_from w caps c k (link_behind w caps (at low d g)) ≡ true)
            → eqb d c || meets_from w caps c k (link_behind w caps (at low d g)) ≡ true
        go (yes z) ih = or_left (eqb d c) _ (eq-eqb d c z)
        go (no f) ih = or_right (eqb d c) _ (ih (past f))

    pub right_chain : chain_right w caps v ≡ true
    unfolding chain_right link ahead chain_of select
    right_chain =
        rw (head_word_lem w caps s p v h) (goes_on most_around 0 0 (omega arith) refl (l.few v) (first_from (s.chain v) caps.cells 0) refl)

    pub right_meets : (c : ℕ) → c < caps.cells → s.chain v c ≡ true → meets w caps c v ≡ true
    unfolding meets link ahead chain_of select
    right_meets c b t =
        rw (head_word_lem w caps s p v h) (meets_on most_around 0 0 c (omega arith) b t refl (l.few v) (first_from (s.chain v) caps.cells 0) refl)
