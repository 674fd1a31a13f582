-- The first number from a place on that passes, and the last below one.
use mathlib.Core.Path.{◌≡◌, refl, ap, ◌∙◌}
use mathlib.Core.Bool.{Bool, true, false, cond}
use mathlib.Core.List.{List, [], ◌∷◌, ◌++◌}
use mathlib.Core.Logic.{⊎_elim}
use Prim.Native.Nat.{ℕ, zero, suc, ◌+◌, ◌<◌, ◌≤◌}
use native.Mathlib.Nat.{not-suc-le-zero, eq-or-lt_of_le}
use native.Mathlib.Decide.{dec_lt, le_ind}
use native.Mathlib.Omega.{arith}
use borrow.Author.Tests.{le-leb, leb-true, eq-eqb}
use lib.Dec.{leb, eqb}
use lib.ListN.{length, length-append}
use Rattle.lists.specs.Lists.{has, keep, select, first}
use Rattle.lists.proofs.Bools.{clash, not_true_false, or_left}
use Rattle.lists.proofs.Keep.{keep_in, keep_out}
use Rattle.lists.proofs.Select.{select_in, select_out}
use Rattle.lists.proofs.Order.{first_least, keep_ascends, select_ascends}
use Rattle.picture.specs.State.{next}
use Rattle.chain.specs.Walk.{last_below}

-- none from lo up to hi passes
abbrev pub None : (ℕ → Bool) → ℕ → ℕ → Type 0
None p lo hi = (k : ℕ) → lo ≤ k → k < hi → p k ≡ false

-- c is the first from lo on, below hi, that passes
pub record First (p : ℕ → Bool) (lo hi c : ℕ) : Type 0 where
  pub low : lo ≤ c
  pub high : c < hi
  pub here : p c ≡ true
  pub gap : None p lo c

-- the link to it: its number + 1, 0 for none
abbrev pub first_from : (ℕ → Bool) → ℕ → ℕ → ℕ
first_from p hi lo = next (keep (leb lo) (select p hi))

-- two firsts are one
first_one : (p : ℕ → Bool) (lo hi c d : ℕ) → First p lo hi c → First p lo hi d → c ≡ d
first_one p lo hi c d a b = go (dec_lt c d) (dec_lt d c)
  where
    go : Dec (c < d) → Dec (d < c) → c ≡ d
    go (yes h) k = absurd (clash a.here (b.gap c a.low h))
    go (no f) (yes k) = absurd (clash b.here (a.gap d b.low k))
    go (no f) (no g) = omega arith

module _ (p : ℕ → Bool) (hi lo : ℕ) where
  kept : (k : ℕ) → lo ≤ k → k < hi → p k ≡ true → has k (keep (leb lo) (select p hi)) ≡ true
  kept k a b t = keep_in (leb lo) (select p hi) k (le-leb lo k a) (select_in p hi k b t)

  -- what the link says
  pub from_none : first_from p hi lo ≡ 0 → None p lo hi
  unfolding next has
  from_none e = go (keep (leb lo) (select p hi)) e kept
    where
      go : (l : List ℕ) → next l ≡ 0 → ((k : ℕ) → lo ≤ k → k < hi → p k ≡ true → has k l ≡ true) → None p lo hi
      go [] e f k a b = not_true_false (p k) (λ t. clash (f k a b t) refl)
      go (x ∷ xs) e f k a b = absurd (omega (arith, e))

  pub from_first : (c : ℕ) → first_from p hi lo ≡ suc c → First p lo hi c
  unfolding next has first
  from_first c e =
      go (keep (leb lo) (select p hi)) e kept (λ k h. keep_out (leb lo) (select p hi) k h)
      (λ k h. first_least 0 (keep (leb lo) (select p hi)) (keep_ascends (leb lo) (select p hi) (select_ascends p hi)) k h)
    where
      go : (l : List ℕ) → next l ≡ suc c → ((k : ℕ) → lo ≤ k → k < hi → p k ≡ true → has k l ≡ true)
          → ((k : ℕ) → has k l ≡ true → (leb lo k ≡ true) × (has k (select p hi) ≡ true)) → ((k : ℕ) → has k l ≡ true → first 0 l ≤ k) → First p lo hi c
      go [] e f g h = absurd (omega (arith, e))
      go (x ∷ xs) e f g h =
          let xc : x ≡ c = omega (arith, e) in
          let i : has c (x ∷ xs) ≡ true = or_left (eqb x c) (has c xs) (eq-eqb x c xc) in
          let s = select_out p hi c (g c i).1 in
          record {
            low = leb-true lo c (g c i).0;
            high = s.0;
            here = s.1;
            gap = λ k a b. not_true_false (p k) (λ t. omega (arith, h k (f k a (omega (arith, s.0)) t)));
          }

  -- and what it is
  pub none_from : None p lo hi → first_from p hi lo ≡ 0
  none_from n = go (first_from p hi lo) refl
    where
      go : (x : ℕ) → first_from p hi lo ≡ x → x ≡ 0
      go zero e = refl
      go (suc d) e = let f = from_first d e in absurd (clash f.here (n d f.low f.high))

  pub first_from_lem : (c : ℕ) → First p lo hi c → first_from p hi lo ≡ suc c
  first_from_lem c a = go (first_from p hi lo) refl
    where
      go : (x : ℕ) → first_from p hi lo ≡ x → x ≡ suc c
      go zero e = absurd (clash a.here (from_none e c a.low a.high))
      go (suc d) e = ap suc (first_one p lo hi d c (from_first d e) a)

module _ (p : ℕ → Bool) where
  -- two gaps in a row
  pub none_then : (lo m hi : ℕ) → None p lo m → None p m hi → None p lo hi
  none_then lo m hi f g k a b = go (dec_lt k m)
    where
      go : Dec (k < m) → p k ≡ false
      go (yes h) = f k a h
      go (no n) = g k (omega arith) b

  -- over a gap the link is the link from further on
  pub from_later : (hi lo m : ℕ) → lo ≤ m → None p lo m → first_from p hi lo ≡ first_from p hi m
  from_later hi lo m l n = go (first_from p hi m) refl
    where
      go : (x : ℕ) → first_from p hi m ≡ x → first_from p hi lo ≡ x
      go zero e = none_from p hi lo (none_then lo m hi n (from_none p hi m e))
      go (suc d) e =
          let f = from_first p hi m d e in
          first_from_lem p hi lo d
          (record { low = omega (arith, f.low); high = f.high; here = f.here; gap = none_then lo m d n f.gap })

  -- where another test agrees at each number that the search reaches, its link is the same
  pub from_same : (q : ℕ → Bool) (hi lo : ℕ) → ((k : ℕ) → lo ≤ k → None p lo k → q k ≡ p k) → first_from q hi lo ≡ first_from p hi lo
  from_same q hi lo f = go (first_from p hi lo) refl
    where
      gap : (d : ℕ) → None p lo d → None q lo d
      gap d n k a b = f k a (λ j c e. n j c (omega arith)) ∙ n k a b

      go : (x : ℕ) → first_from p hi lo ≡ x → first_from q hi lo ≡ x
      go zero e = none_from q hi lo (gap hi (from_none p hi lo e))
      go (suc d) e =
          let g = from_first p hi lo d e in
          first_from_lem q hi lo d
          (record { low = g.low; high = g.high; here = f d g.low g.gap ∙ g.here; gap = gap d g.gap })

  -- what is selected: over a gap nothing, and then the first
  pub select_gap : (lo hi : ℕ) → lo ≤ hi → None p lo hi → select p hi ≡ select p lo
  unfolding select
  select_gap lo hi h f =
      le_ind (λ (m : ℕ). None p lo m → select p m ≡ select p lo) (λ g. refl)
      (λ m l ih g.
      let e : p m ≡ false = g m l (omega arith) in
      rw e (ih (λ k a b. g k a (omega arith))))
      hi h f

  pub select_first : (lo hi c : ℕ) → First p lo hi c → select p (suc c) ≡ select p lo ++ (c ∷ [])
  unfolding select
  select_first lo hi c f = rw (f.here, select_gap lo c f.low f.gap)

  pub select_grows : (lo hi : ℕ) → lo ≤ hi → length (select p lo) ≤ length (select p hi)
  unfolding select
  select_grows lo hi h =
      le_ind (λ (m : ℕ). length (select p lo) ≤ length (select p m)) (omega arith) (λ m l ih. step m (p m) ih) hi h
    where
      step : (m : ℕ) (b : Bool) → length (select p lo) ≤ length (select p m)
          → length (select p lo) ≤ length (cond b (select p m ++ (m ∷ [])) (select p m))
      step m true ih = rw length-append (omega arith)
      step m false ih = ih

  -- once as many are passed as there are, none follows
  pub from_full : (lo hi n : ℕ) → n ≤ length (select p lo) → length (select p hi) ≤ n → first_from p hi lo ≡ 0
  unfolding select
  from_full lo hi n a b =
      none_from p hi lo
      (λ k l h. not_true_false (p k) (λ t.
      let one : length (select p (suc k)) ≡ length (select p k) + 1 = rw (t, length-append) refl in
      omega (arith, one, select_grows lo k l, select_grows (suc k) hi h)))

  -- the last below: it passes, and behind it there is a gap
  pub last_low : (n : ℕ) → last_below p n ≤ n
  unfolding last_below
  last_low zero = omega arith
  last_low (suc n) = go (p n) (last_low n)
    where
      go : (b : Bool) → last_below p n ≤ n → cond b (suc n) (last_below p n) ≤ suc n
      go true h = omega arith
      go false h = omega arith

  pub last_gap : (n : ℕ) → None p (last_below p n) n
  unfolding last_below
  last_gap zero = λ k a b. absurd (not-suc-le-zero b)
  last_gap (suc n) = go (p n) refl (last_gap n)
    where
      go : (b : Bool) → p n ≡ b → None p (last_below p n) n → None p (cond b (suc n) (last_below p n)) (suc n)
      go true e f k a h = absurd (omega arith)
      go false e f k a h = ⊎_elim (λ (z : k ≡ n). rw z e) (λ (l : k < n). f k a l) (eq-or-lt_of_le {n = k} {m = n} (omega arith))

  pub last_here : (n d : ℕ) → last_below p n ≡ suc d → p d ≡ true
  unfolding last_below
  last_here zero d e = absurd (omega (arith, e))
  last_here (suc n) d e = go (p n) refl e (last_here n d)
    where
      go : (b : Bool) → p n ≡ b → cond b (suc n) (last_below p n) ≡ suc d → (last_below p n ≡ suc d → p d ≡ true) → p d ≡ true
      go true t e f = let z : d ≡ n = omega (arith, e) in rw z t
      go false t e f = f e

  pub last_is : (lo n : ℕ) → lo ≤ n → None p lo n → last_below p n ≡ last_below p lo
  unfolding last_below
  last_is lo n h f =
      le_ind (λ (m : ℕ). None p lo m → last_below p m ≡ last_below p lo) (λ g. refl)
      (λ m l ih g.
      let e : p m ≡ false = g m l (omega arith) in
      rw e (ih (λ k a b. g k a (omega arith))))
      n h f
