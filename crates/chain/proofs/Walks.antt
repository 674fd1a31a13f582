-- A walk along the links of a chain: what it has gathered, and where it stands in the search for a cell.
use mathlib.Core.Path.{◌≡◌, refl, sym, ap, ◌∙◌}
use mathlib.Core.Bool.{Bool, true}
use mathlib.Core.List.{List, [], ◌∷◌, ◌++◌, append_assoc}
use Prim.Native.Nat.{ℕ, zero, suc, ◌+◌, ◌/◌, ◌%◌, ◌<◌, ◌≤◌}
use native.Mathlib.Numerals.{add-one}
use native.Mathlib.Omega.{arith}
use lib.ListN.{get_or, length, set, drop, length-append}
use lib.Seq.{drop-cons, set_at}
use Rattle.lists.specs.Lists.{select}
use Rattle.numbers.specs.declared.Caps.{Caps}
use Rattle.store.specs.Fields.{Link}
use Rattle.store.specs.Slots.{InCell, read}
use Rattle.picture.specs.State.{State}
use Rattle.picture.specs.Picture.{Pic, chain_of, ahead, link_to, link}
use Rattle.chain.specs.Chain.{Linked}
use Rattle.chain.specs.Walk.{last_below}
use Rattle.chain.proofs.Nexts.{None, First, first_from, from_none, from_first, from_later, from_full, select_gap, select_first, last_is}
use Rattle.chain.proofs.Places.{link_says, link_word_lem}

-- the n numbers below lo that pass stand in the first places of the output, and x is the link to the first from lo on
pub record Walk (p : ℕ → Bool) (hi : ℕ) (out₀ out : List ℕ) (n x : ℕ) : Type 0 where
  pub lo : ℕ
  pub low : lo ≤ hi
  pub link : x ≡ first_from p hi lo
  pub count : n ≡ length (select p lo)
  pub wrote : n ≤ length out₀ → out ≡ select p lo ++ drop n out₀

-- and when none is left
pub record Walked (p : ℕ → Bool) (hi : ℕ) (out₀ out : List ℕ) (n : ℕ) : Type 0 where
  pub count : n ≡ length (select p hi)
  pub wrote : n ≤ length out₀ → out ≡ select p hi ++ drop n out₀

module _ (p : ℕ → Bool) (hi : ℕ) (out₀ : List ℕ) where
  pub walk_start : (x : ℕ) → x ≡ first_from p hi 0 → Walk p hi out₀ out₀ 0 x
  unfolding select
  walk_start x e = record { lo = 0; low = omega arith; link = e; count = refl; wrote = λ _. refl }

  pub walk_step : (out : List ℕ) (n x c x' : ℕ) → Walk p hi out₀ out n x → x ≡ suc c
      → (c < hi → p c ≡ true → x' ≡ first_from p hi (suc c)) → Walk p hi out₀ (set out n c) (n + 1) x'
  walk_step out n x c x' w e f =
      record {
        lo = suc c;
        low = first.high;
        link = f first.high first.here;
        count = rw (more, length-append) (omega (arith, w.count));
        wrote = λ l.
            let less : n < length out₀ = omega arith in
            let o : out ≡ select p w.lo ++ (get_or out₀ n 0 ∷ drop (suc n) out₀) = rw (← drop-cons out₀ n 0 less) (w.wrote (omega arith)) in
            rw (o, set_at (select p w.lo) (get_or out₀ n 0) (drop (suc n) out₀) c n (sym w.count), more, append_assoc, add-one n) refl;
      }
    where
      first : First p w.lo hi c
      first = from_first p hi w.lo c (sym w.link ∙ e)

      more : select p (suc c) ≡ select p w.lo ++ (c ∷ [])
      more = select_first p w.lo hi c first

  pub walk_end : (out : List ℕ) (n x : ℕ) → Walk p hi out₀ out n x → x ≡ 0 → Walked p hi out₀ out n
  walk_end out n x w e =
      let all : select p hi ≡ select p w.lo = select_gap p w.lo hi w.low (from_none p hi w.lo (sym w.link ∙ e)) in
      record { count = w.count ∙ ap length (sym all); wrote = λ l. rw all (w.wrote l) }

  pub walk_full : (out : List ℕ) (n x : ℕ) → Walk p hi out₀ out n x → length (select p hi) ≤ n → Walked p hi out₀ out n
  walk_full out n x w few = walk_end out n x w (w.link ∙ from_full p w.lo hi n (omega (arith, w.count)) few)

-- before is the last below c so far, as number + 1; after is the link on; n numbers are passed
pub record Search (p : ℕ → Bool) (hi c before after n : ℕ) : Type 0 where
  pub low : before ≤ c
  pub last : last_below p before ≡ before
  pub link : after ≡ first_from p hi before
  pub count : n ≡ length (select p before)

module _ (p : ℕ → Bool) (hi c : ℕ) where
  pub search_start : (after : ℕ) → after ≡ first_from p hi 0 → Search p hi c 0 after 0
  unfolding select last_below
  search_start after e = record { low = omega arith; last = refl; link = e; count = refl }

  pub search_step : (before after n d after' : ℕ) → Search p hi c before after n → after ≡ suc d → after ≤ c
      → (d < hi → p d ≡ true → after' ≡ first_from p hi (suc d)) → Search p hi c after after' (n + 1)
  unfolding last_below
  search_step before after n d after' s e l f =
      let first : First p before hi d = from_first p hi before d (sym s.link ∙ e) in
      record {
        low = l;
        last = rw (e, first.here);
        link = rw e (f first.high first.here);
        count = rw (e, select_first p before hi d first, length-append) (omega (arith, s.count));
      }

  -- nothing of the chain lies between: the search is over
  search_gap : (before after n : ℕ) → Search p hi c before after n → None p before c
      → (before ≡ last_below p c) × (after ≡ first_from p hi c)
  search_gap before after n s g = (
    sym (last_is p before c s.low g ∙ s.last),
    s.link ∙ from_later p hi before c s.low g,
  )

  pub search_end : (before after n : ℕ) → Search p hi c before after n → c ≤ hi → after ≡ 0
      → (before ≡ last_below p c) × (after ≡ first_from p hi c)
  search_end before after n s l e =
      search_gap before after n s (λ k a b. from_none p hi before (sym s.link ∙ e) k a (omega arith))

  pub search_past : (before after n d : ℕ) → Search p hi c before after n → after ≡ suc d → c ≤ d
      → (before ≡ last_below p c) × (after ≡ first_from p hi c)
  search_past before after n d s e l =
      search_gap before after n s (λ k a b. (from_first p hi before d (sym s.link ∙ e)).gap k a (omega arith))

  pub search_full : (before after n : ℕ) → Search p hi c before after n → c ≤ hi → length (select p hi) ≤ n
      → (before ≡ last_below p c) × (after ≡ first_from p hi c)
  search_full before after n s l few =
      search_end before after n s l (s.link ∙ from_full p before hi n (omega (arith, s.count)) few)

-- the same walk by the words: each is the link to the cell that the number says
module _ (caps : Caps) (s : State) (v : ℕ) where
  pub record Walking (out₀ out : List ℕ) (n y : ℕ) : Type 0 where
    pub number : ℕ
    pub leads : y ≡ link_to s.at v number
    pub walk : Walk (s.chain v) caps.cells out₀ out n number

  -- a word is 0 exactly where there is none
  to_none : (x : ℕ) → link_to s.at v x ≡ 0 → x ≡ 0
  unfolding link_to
  to_none zero e = refl
  to_none (suc c) e = absurd (omega (arith, e))

  to_some : (x i : ℕ) → link_to s.at v x ≡ suc i → (c : ℕ) × (x ≡ suc c)
  unfolding link_to
  to_some zero i e = absurd (omega (arith, e))
  to_some (suc c) i e = (c, refl)

  pub walking_start : (out₀ : List ℕ) (y : ℕ) → y ≡ link caps s v 0 → Walking out₀ out₀ 0 y
  unfolding link ahead chain_of
  walking_start out₀ y e = record { number = ahead caps s v 0; leads = e; walk = walk_start (s.chain v) caps.cells out₀ (ahead caps s v 0) refl }

  pub walking_end : (out₀ out : List ℕ) (n y : ℕ) → Walking out₀ out n y → y ≡ 0 → Walked (s.chain v) caps.cells out₀ out n
  walking_end out₀ out n y a e = walk_end (s.chain v) caps.cells out₀ out n a.number a.walk (to_none a.number (sym a.leads ∙ e))

  pub walking_full : (out₀ out : List ℕ) (n y : ℕ) → Walking out₀ out n y → length (chain_of caps s v) ≤ n → Walked (s.chain v) caps.cells out₀ out n
  unfolding chain_of
  walking_full out₀ out n y a few = walk_full (s.chain v) caps.cells out₀ out n a.number a.walk few

  module _ (w : List ℕ) (p : Pic w caps s) (l : Linked caps s) where
    pub walking_step : (out₀ out : List ℕ) (n y i y' : ℕ) → Walking out₀ out n y → y ≡ suc i → y' ≡ read w caps (InCell (i / 8) (Link (i % 8)))
        → Walking out₀ (set out n (i / 8)) (n + 1) y'
    unfolding link ahead chain_of
    walking_step out₀ out n y i y' a e f = go (to_some a.number i (sym a.leads ∙ e))
      where
        go : (c : ℕ) × (a.number ≡ suc c) → Walking out₀ (set out n (i / 8)) (n + 1) y'
        go c =
            let first = from_first (s.chain v) caps.cells a.walk.lo c.0 (sym a.walk.link ∙ c.1) in
            let same : suc i ≡ link_to s.at v (suc c.0) = sym e ∙ (a.leads ∙ ap (link_to s.at v) c.1) in
            record {
              number = ahead caps s v (suc c.0);
              leads = f ∙ link_word_lem w caps s p l v c.0 i first.high first.here same;
              walk =
                  rw (link_says caps s l v c.0 i first.here same).0
                  (walk_step (s.chain v) caps.cells out₀ out n a.number c.0 (ahead caps s v (suc c.0)) a.walk c.1 (λ k t. refl));
            }

  pub record Searching (c before after n : ℕ) : Type 0 where
    pub last : ℕ
    pub next : ℕ
    pub from : before ≡ link_to s.at v last
    pub leads : after ≡ link_to s.at v next
    pub search : Search (s.chain v) caps.cells c last next n

  -- the spot of c
  Spotted : ℕ → ℕ → ℕ → Type 0
  Spotted c before after = (before ≡ link_to s.at v (last_below (s.chain v) c)) × (after ≡ link caps s v c)

  spotted : (c before after n : ℕ) (a : Searching c before after n)
      → (a.last ≡ last_below (s.chain v) c) × (a.next ≡ first_from (s.chain v) caps.cells c) → Spotted c before after
  unfolding Spotted link ahead chain_of
  spotted c before after n a q = (a.from ∙ ap (link_to s.at v) q.0, a.leads ∙ ap (link_to s.at v) q.1)

  pub searching_start : (c after : ℕ) → after ≡ link caps s v 0 → Searching c 0 after 0
  unfolding link ahead chain_of link_to
  searching_start c after e = record {
    last = 0;
    next = ahead caps s v 0;
    from = refl;
    leads = e;
    search = search_start (s.chain v) caps.cells c (ahead caps s v 0) refl;
  }

  pub searching_end : (c before after n : ℕ) → Searching c before after n → c ≤ caps.cells → after ≡ 0
      → (before ≡ link_to s.at v (last_below (s.chain v) c)) × (after ≡ link caps s v c)
  unfolding Spotted
  searching_end c before after n a l e =
      spotted c before after n a (search_end (s.chain v) caps.cells c a.last a.next n a.search l (to_none a.next (sym a.leads ∙ e)))

  pub searching_full : (c before after n : ℕ) → Searching c before after n → c ≤ caps.cells → length (chain_of caps s v) ≤ n
      → (before ≡ link_to s.at v (last_below (s.chain v) c)) × (after ≡ link caps s v c)
  unfolding Spotted chain_of
  searching_full c before after n a l few =
      spotted c before after n a (search_full (s.chain v) caps.cells c a.last a.next n a.search l few)

  module _ (l : Linked caps s) where
    -- the cell that the search has come to
    come : (c before after n i : ℕ) (a : Searching c before after n) → after ≡ suc i
        → (d : ℕ) × (a.next ≡ suc d) × First (s.chain v) a.last caps.cells d × (suc i ≡ link_to s.at v (suc d)) × (i / 8 ≡ d)
    come c before after n i a e = go (to_some a.next i (sym a.leads ∙ e))
      where
        go : (d : ℕ) × (a.next ≡ suc d)
            → (d : ℕ) × (a.next ≡ suc d) × First (s.chain v) a.last caps.cells d × (suc i ≡ link_to s.at v (suc d)) × (i / 8 ≡ d)
        go d =
            let first = from_first (s.chain v) caps.cells a.last d.0 (sym a.search.link ∙ d.1) in
            let same : suc i ≡ link_to s.at v (suc d.0) = sym e ∙ (a.leads ∙ ap (link_to s.at v) d.1) in
            (d.0, d.1, first, same, (link_says caps s l v d.0 i first.here same).0)

    pub searching_past : (c before after n i : ℕ) → Searching c before after n → after ≡ suc i → c ≤ i / 8
        → (before ≡ link_to s.at v (last_below (s.chain v) c)) × (after ≡ link caps s v c)
    unfolding Spotted
    searching_past c before after n i a e h =
        let d = come c before after n i a e in
        spotted c before after n a (search_past (s.chain v) caps.cells c a.last a.next n d.0 a.search d.1 (omega (arith, d.4)))

    pub searching_step : (w : List ℕ) → Pic w caps s → (c before after n i after' : ℕ) → Searching c before after n → after ≡ suc i → i / 8 < c
        → after' ≡ read w caps (InCell (i / 8) (Link (i % 8))) → Searching c after after' (n + 1)
    unfolding link ahead chain_of
    searching_step w p c before after n i after' a e h f =
        let d = come c before after n i a e in
        record {
          last = a.next;
          next = ahead caps s v (suc d.0);
          from = a.leads;
          leads = f ∙ link_word_lem w caps s p l v d.0 i d.2.high d.2.here d.3;
          search =
              search_step (s.chain v) caps.cells c a.last a.next n d.0 (ahead caps s v (suc d.0)) a.search d.1
              (omega (arith, d.1, d.4)) (λ k t. refl);
        }
