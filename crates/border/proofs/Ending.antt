-- What the walk along a chain knows of the star: the first half-facet at the mark so far, and that no border lies before.
use mathlib.Core.Path.{◌≡◌, refl, sym, ◌∙◌}
use mathlib.Core.Bool.{Bool, true, false, cond}
use mathlib.Core.List.{List}
use mathlib.Core.Logic.{⊎_elim, ◌⊎◌, inl, inr}
use Prim.Native.Nat.{ℕ, zero, suc, ◌+◌, ◌-◌, ◌/◌, ◌%◌, ◌<◌, ◌≤◌}
use native.Mathlib.Nat.{not-suc-le-zero}
use native.Mathlib.Decide.{dec_lt, ℕ_discrete}
use native.Mathlib.Omega.{arith}
use borrow.Author.Tests.{eq-eqb, ne_eqb}
use lib.Dec.{eqb}
use lib.ListN.{length, get_or}
use Rattle.lists.specs.Lists.{has, place}
use Rattle.lists.proofs.Bools.{clash, not_true_false}
use Rattle.lists.proofs.Keep.{keep_in, keep_out}
use Rattle.lists.proofs.Order.{keep_ascends}
use Rattle.numbers.specs.declared.Caps.{Caps}
use Rattle.numbers.specs.Sizes.{most_around}
use Rattle.store.specs.Fields.{Link}
use Rattle.store.specs.Slots.{InCell, read}
use Rattle.map.specs.Cells.{Map}
use Rattle.map.specs.Siblings.{border}
use Rattle.map.specs.Stars.{star}
use Rattle.laws.proofs.Anchors.{halves_has, halves_ascend, star_has}
use Rattle.picture.specs.State.{State, map_with, next}
use Rattle.picture.specs.Picture.{Pic, link, corner}
use Rattle.chain.specs.Chain.{Linked}
use Rattle.chain.proofs.Nexts.{None, First}
use Rattle.chain.proofs.Places.{corner_there}
use Rattle.chain.proofs.Readied.{ready_linked}
use Rattle.border.specs.Corners.{star_bits, half_at_in}
use Rattle.border.specs.First.{star_halves, star_borders, Beside}
use Rattle.border.proofs.Firsts.{next_least, empty_next}
use Rattle.border.proofs.Chained.{Along, along_start, along_end, along_full, along_here, along_more}
use Rattle.border.proofs.Cornered.{half_none, half_some}

-- the corner of a cell of the chain
pub corner_at : (caps : Caps) (s : State) → Linked caps s → (v c k : ℕ) → s.chain v c ≡ true → k ≡ place v (s.at c).marks
    → (k < length (s.at c).marks) × (get_or (s.at c).marks k 0 ≡ v)
unfolding corner
corner_at caps s l v c k t e = rw e (corner_there caps s l v c t)

module _ (caps : Caps) (s : State) (v : ℕ) (b : Beside caps v s) (d : ℕ) where
  abbrev m : Map
  m = map_with caps s

  -- the cell of a half-facet of the star stands in the chain
  pub in_chain : (c : ℕ) → has c (star m d v) ≡ true → (c < caps.cells) × (s.chain v c ≡ true)
  unfolding map_with
  in_chain c e = let r = star_has m d v c e in (r.0, b.settled.ready.chains v c ∙ r.2)

  in_star : (h : ℕ) → has h (star_halves m d v) ≡ true → has (h / 8) (star m d v) ≡ true
  in_star h e = (halves_has m v (star m d v) h e).1

  pub record Passed (lo found : ℕ) : Type 0 where
    pub clear : (h : ℕ) → has h (star_halves m d v) ≡ true → h / 8 < lo → border m h ≡ false
    pub none : found ≡ 0 → (h : ℕ) → has h (star_halves m d v) ≡ true → h / 8 < lo → ⊥
    pub some : (x : ℕ) → found ≡ suc x → (has x (star_halves m d v) ≡ true) × ((h : ℕ) → has h (star_halves m d v) ≡ true → x ≤ h)

  pub record Ending (n y found : ℕ) : Type 0 where
    pub lo : ℕ
    pub along : Along caps s v lo n y
    pub passed : Passed lo found

  -- what is found is the first of all
  first_found : (found : ℕ) → (found ≡ 0 → (h : ℕ) → has h (star_halves m d v) ≡ true → ⊥)
      → ((x : ℕ) → found ≡ suc x → (has x (star_halves m d v) ≡ true) × ((h : ℕ) → has h (star_halves m d v) ≡ true → x ≤ h))
      → found ≡ next (star_halves m d v)
  first_found zero none some = sym (empty_next (star_halves m d v) (none refl))
  first_found (suc x) none some =
      let r = some x refl in
      sym (next_least (star_halves m d v) (halves_ascend m v (star m d v)) x r.0 r.1)

  pub ending_start : (y : ℕ) → y ≡ link caps s v 0 → Ending 0 y 0
  ending_start y e = record {
    lo = 0;
    along = along_start caps s v y e;
    passed = record {
      clear = λ h there l. absurd (not-suc-le-zero l);
      none = λ z h there l. not-suc-le-zero l;
      some = λ x z. absurd (omega (arith, z));
    };
  }

  -- no cell is left
  pub ending_none : (n y found : ℕ) → (a : Ending n y found) → None (s.chain v) a.lo caps.cells
      → (found ≡ next (star_halves m d v)) × (0 ≡ next (star_borders m d v))
  ending_none n y found a last = (
    first_found found (λ z h there. a.passed.none z h there (before h there)) a.passed.some,
    sym (empty_next (star_borders m d v) (λ h e.
        let r = keep_out (border m) (star_halves m d v) h e in
        clash r.0 (a.passed.clear h r.1 (before h r.1)))),
  )
    where
      before : (h : ℕ) → has h (star_halves m d v) ≡ true → h / 8 < a.lo
      before h there = go (dec_lt (h / 8) a.lo)
        where
          go : Dec (h / 8 < a.lo) → h / 8 < a.lo
          go (yes l) = l
          go (no f) = let r = in_chain (h / 8) (in_star h there) in absurd (clash r.1 (last (h / 8) (omega arith) r.0))

  pub ending_end : (n y found : ℕ) → Ending n y found → y ≡ 0 → (found ≡ next (star_halves m d v)) × (0 ≡ next (star_borders m d v))
  ending_end n y found a e = ending_none n y found a (along_end caps s v a.lo n y a.along e)

  pub ending_full : (n y found : ℕ) → Ending n y found → most_around ≤ n → (found ≡ next (star_halves m d v)) × (0 ≡ next (star_borders m d v))
  ending_full n y found a h = ending_none n y found a (along_full caps s v (ready_linked caps s b.settled.ready) a.lo n y a.along h)

  -- one cell more
  module _ (w : List ℕ) (p : Pic w caps s) (n y i found : ℕ) (a : Ending n y found) (e : y ≡ suc i) (bits : ℕ)
      (digits : bits ≡ star_bits w caps d (i / 8) (i % 8)) (found' : ℕ) (any : found' ≡ cond (eqb found 0) (half_at_in w caps (i / 8) bits false) found)
      (x : ℕ) (least : x ≡ half_at_in w caps (i / 8) bits true) where
    c : ℕ
    c = i / 8

    here : First (s.chain v) a.lo caps.cells (i / 8) × (i % 8 ≡ place v (s.at (i / 8)).marks)
    here = along_here caps s v (ready_linked caps s b.settled.ready) a.lo n y i a.along e

    at : (i % 8 < length (s.at (i / 8)).marks) × (get_or (s.at (i / 8)).marks (i % 8) 0 ≡ v)
    at = corner_at caps s (ready_linked caps s b.settled.ready) v (i / 8) (i % 8) here.0.here here.1

    -- a half-facet of the star that is not behind lies before, or in the cell
    split : (h : ℕ) → has h (star_halves m d v) ≡ true → h / 8 < suc c → (h / 8 < a.lo) ⊎ (h / 8 ≡ c)
    unfolding c
    split h there l = go (dec_lt (h / 8) a.lo) (ℕ_discrete (h / 8) (i / 8))
      where
        go : Dec (h / 8 < a.lo) → Dec (h / 8 ≡ i / 8) → (h / 8 < a.lo) ⊎ (h / 8 ≡ i / 8)
        go (yes k) z = inl k
        go (no f) (yes z) = inr z
        go (no f) (no g) =
            let r = in_chain (h / 8) (in_star h there) in
            absurd (clash r.1 (here.0.gap (h / 8) (omega arith) (omega arith)))

    none_here : (only : Bool) → half_at_in w caps (i / 8) bits only ≡ 0 → (h : ℕ) → has h (star_halves m d v) ≡ true → h / 8 ≡ c
        → (only ≡ true → border m h ≡ true) → ⊥
    unfolding c
    none_here only z = half_none w caps s p v b (i / 8) (i % 8) here.0.high at.0 at.1 d only (rw digits at z)

    some_here : (only : Bool) (z : ℕ) → half_at_in w caps (i / 8) bits only ≡ suc z
        → (has z (star_halves m d v) ≡ true) × (only ≡ true → border m z ≡ true) × (z / 8 ≡ c)
        × ((h : ℕ) → has h (star_halves m d v) ≡ true → h / 8 ≡ c → (only ≡ true → border m h ≡ true) → z ≤ h)
    unfolding c
    some_here only z q = half_some w caps s p v b (i / 8) (i % 8) here.0.high at.0 at.1 d only z (rw digits at q)

    never : false ≡ true → (h : ℕ) → border m h ≡ true
    never z h = absurd (clash z refl)

    -- where none is found, none is there; what is found is the first
    none' : found' ≡ 0 → (h : ℕ) → has h (star_halves m d v) ≡ true → h / 8 < suc c → ⊥
    none' z h there l = go (ℕ_discrete found 0)
      where
        go : Dec (found ≡ 0) → ⊥
        go (yes q) =
            let own : half_at_in w caps (i / 8) bits false ≡ 0 = sym (rw (eq-eqb found 0 q) at any) ∙ z in
            ⊎_elim (a.passed.none q h there) (λ k. none_here false own h there k (λ t. never t h)) (split h there l)
        go (no f) = f (sym (rw (ne_eqb found 0 f) at any) ∙ z)

    some' : (z : ℕ) → found' ≡ suc z → (has z (star_halves m d v) ≡ true) × ((h : ℕ) → has h (star_halves m d v) ≡ true → z ≤ h)
    some' z k = go (ℕ_discrete found 0)
      where
        go : Dec (found ≡ 0) → (has z (star_halves m d v) ≡ true) × ((h : ℕ) → has h (star_halves m d v) ≡ true → z ≤ h)
        go (yes q) =
            let own : half_at_in w caps (i / 8) bits false ≡ suc z = sym (rw (eq-eqb found 0 q) at any) ∙ k in
            let r = some_here false z own in
            (r.0, λ h there. low q r h there (dec_lt (h / 8) (suc c)))
          where
            low : found ≡ 0 → (has z (star_halves m d v) ≡ true) × (false ≡ true → border m z ≡ true) × (z / 8 ≡ c)
                × ((h : ℕ) → has h (star_halves m d v) ≡ true → h / 8 ≡ c → (false ≡ true → border m h ≡ true) → z ≤ h)
                → (h : ℕ) → has h (star_halves m d v) ≡ true → Dec (h / 8 < suc c) → z ≤ h
            low q r h there (yes l) = ⊎_elim (λ t. absurd (a.passed.none q h there t)) (λ t. r.3 h there t (λ t. never t h)) (split h there l)
            low q r h there (no f) = omega (arith, r.2)
        go (no f) = a.passed.some z (sym (rw (ne_eqb found 0 f) at any) ∙ k)

    pub ending_more : (y' : ℕ) → y' ≡ read w caps (InCell (i / 8) (Link (i % 8))) → x ≡ 0 → Ending (n + 1) y' found'
    unfolding c
    ending_more y' q z = record {
      lo = suc (i / 8);
      along = along_more caps s v (ready_linked caps s b.settled.ready) a.lo n y i a.along e w p y' q;
      passed = record {
        clear = λ h there l.
            ⊎_elim (a.passed.clear h there) (λ k. not_true_false _ (λ t. none_here true (sym least ∙ z) h there k (λ _. t))) (split h there l);
        none = none';
        some = some';
      };
    }

    pub ending_border : 0 < x → (found' ≡ next (star_halves m d v)) × (x ≡ next (star_borders m d v))
    ending_border some = (
      first_found found' (λ z h there. none' z (x - 1) r.0 (omega (arith, r.2))) some',
      one ∙ sym (next_least (star_borders m d v) (keep_ascends (border m) (star_halves m d v) (halves_ascend m v (star m d v))) (x - 1)
          (keep_in (border m) (star_halves m d v) (x - 1) (r.1 refl) r.0) (λ h t. let q = keep_out (border m) (star_halves m d v) h t in low h q.1 q.0 (dec_lt (h / 8) (suc c)))),
    )
      where
        one : x ≡ suc (x - 1)
        one = omega arith

        r : (has (x - 1) (star_halves m d v) ≡ true) × (true ≡ true → border m (x - 1) ≡ true) × ((x - 1) / 8 ≡ c)
            × ((h : ℕ) → has h (star_halves m d v) ≡ true → h / 8 ≡ c → (true ≡ true → border m h ≡ true) → x - 1 ≤ h)
        r = some_here true (x - 1) (sym least ∙ one)

        low : (h : ℕ) → has h (star_halves m d v) ≡ true → border m h ≡ true → Dec (h / 8 < suc c) → x - 1 ≤ h
        low h there t (yes l) = ⊎_elim (λ k. absurd (clash t (a.passed.clear h there k))) (λ k. r.3 h there k (λ _. t)) (split h there l)
        low h there t (no f) = omega (arith, r.2)
