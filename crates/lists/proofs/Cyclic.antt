-- An ascending list as a cycle: stepping to the next goes once through the whole list and returns.
use mathlib.Core.Path.{◌≡◌, refl, sym, ap, ◌∙◌}
use mathlib.Core.Bool.{Bool, true, false, ◌||◌}
use mathlib.Core.List.{List, [], ◌∷◌, ◌++◌}
use mathlib.Core.Logic.{⊎_elim}
use Prim.Native.Nat.{ℕ, zero, suc, ◌+◌, ◌-◌, ◌<◌}
use native.Mathlib.Nat.{not-suc-le-zero, le_of_suc-le-suc}
use native.Mathlib.Decide.{dec_lt}
use native.Mathlib.Omega.{arith}
use borrow.Author.Tests.{le-leb, lt-leb, lt-ltb, le-ltb, eq-eqb}
use lib.Dec.{leb, ltb, eqb}
use lib.ListN.{length, get_or, take, drop, length-drop, get_or-append, length-append, drop_of_length-le}
use lib.Seq.{get_or-drop, get_or-take, get_or-append-add, drop-cons, length-take-le}
use Rattle.lists.specs.Lists.{has, keep, first, after, from, steps}
use Rattle.lists.specs.Ascending.{Ascending}
use Rattle.lists.proofs.Bools.{or_left, or_right, or_cases, and_right, and_both}
use Rattle.lists.proofs.Members.{has_at, has_append, first_at, first_has, keep_has}
use Rattle.lists.proofs.Order.{asc_rest, asc_first}

-- all are kept, or none
keep_all : (p : ℕ → Bool) (l : List ℕ) → ((v : ℕ) → has v l ≡ true → p v ≡ true) → keep p l ≡ l
unfolding keep has
keep_all p [] f = refl
keep_all p (x ∷ xs) f =
    let e : p x ≡ true = f x (or_left (eqb x x) (has x xs) (eq-eqb x x refl)) in
    let r : keep p xs ≡ xs = keep_all p xs (λ v h. f v (or_right (eqb x v) (has v xs) h)) in
    rw (e, r)

keep_none : (p : ℕ → Bool) (l : List ℕ) → ((v : ℕ) → has v l ≡ true → p v ≡ false) → keep p l ≡ []
unfolding keep has
keep_none p [] f = refl
keep_none p (x ∷ xs) f =
    let e : p x ≡ false = f x (or_left (eqb x x) (has x xs) (eq-eqb x x refl)) in
    rw (e, keep_none p xs (λ v h. f v (or_right (eqb x v) (has v xs) h)))

-- what an ascending list has from a place on, behind it, and before it
pub keep_from : (l : List ℕ) → Ascending l → (i : ℕ) → i < length l → keep (leb (get_or l i 0)) l ≡ drop i l
unfolding keep
keep_from [] a i h = absurd (not-suc-le-zero h)
keep_from (x ∷ xs) a zero h =
    rw (le-leb x x (omega arith), keep_all (leb x) xs (λ v e. le-leb x v (omega (arith, asc_first x xs a v e))))
keep_from (x ∷ xs) a (suc i) h =
    rw (lt-leb (get_or xs i 0) x (a zero (suc i) (omega arith) h)) (keep_from xs (asc_rest x xs a) i (le_of_suc-le-suc h))

pub keep_behind : (l : List ℕ) → Ascending l → (i : ℕ) → i < length l → keep (ltb (get_or l i 0)) l ≡ drop (suc i) l
unfolding keep
keep_behind [] a i h = absurd (not-suc-le-zero h)
keep_behind (x ∷ xs) a zero h =
    rw (le-ltb x x (omega arith), keep_all (ltb x) xs (λ v e. lt-ltb x v (asc_first x xs a v e)))
keep_behind (x ∷ xs) a (suc i) h =
    rw (le-ltb (get_or xs i 0) x (omega (arith, a zero (suc i) (omega arith) h))) (keep_behind xs (asc_rest x xs a) i (le_of_suc-le-suc h))

pub keep_before : (l : List ℕ) → Ascending l → (i : ℕ) → i < length l → keep (λ k. ltb k (get_or l i 0)) l ≡ take i l
unfolding keep
keep_before [] a i h = absurd (not-suc-le-zero h)
keep_before (x ∷ xs) a zero h =
    rw (le-ltb x x (omega arith)) (keep_none (λ k. ltb k x) xs (λ v e. le-ltb v x (omega (arith, asc_first x xs a v e))))
keep_before (x ∷ xs) a (suc i) h =
    rw (lt-ltb x (get_or xs i 0) (a zero (suc i) (omega arith) h), keep_before xs (asc_rest x xs a) i (le_of_suc-le-suc h))

-- what is read where something stands does not depend on the default
get_d_any : (l : List ℕ) (k d e : ℕ) → k < length l → get_or l k d ≡ get_or l k e
get_d_any [] k d e h = absurd (not-suc-le-zero h)
get_d_any (x ∷ xs) zero d e h = refl
get_d_any (x ∷ xs) (suc k) d e h = get_d_any xs k d e (le_of_suc-le-suc h)

-- a list laid twice: the second time round
pub twice_again : (l : List ℕ) (k j : ℕ) → j ≡ length l + k → get_or (l ++ l) j 0 ≡ get_or l k 0
twice_again l k j e = rw e (get_or-append-add l l k 0)

-- the cycle has the numbers of the list
pub has_from : (h v : ℕ) (l : List ℕ) → has v l ≡ true → has v (from h l) ≡ true
unfolding from
has_from h v l e = has_append v (keep (leb h) l) (keep (λ k. ltb k h) l) ∙ go (dec_lt v h)
  where
    go : Dec (v < h) → has v (keep (leb h) l) || has v (keep (λ k. ltb k h) l) ≡ true
    go (yes less) =
        or_right (has v (keep (leb h) l)) (has v (keep (λ k. ltb k h) l))
        (keep_has (λ k. ltb k h) l v ∙ and_both (ltb v h) (has v l) (lt-ltb v h less) e)
    go (no f) =
        or_left (has v (keep (leb h) l)) (has v (keep (λ k. ltb k h) l))
        (keep_has (leb h) l v ∙ and_both (leb h v) (has v l) (le-leb h v (omega arith)) e)

pub from_has : (h v : ℕ) (l : List ℕ) → has v (from h l) ≡ true → has v l ≡ true
unfolding from
from_has h v l e =
    ⊎_elim (λ (q : has v (keep (leb h) l) ≡ true). and_right (leb h v) (has v l) (sym (keep_has (leb h) l v) ∙ q))
    (λ (q : has v (keep (λ k. ltb k h) l) ≡ true). and_right (ltb v h) (has v l) (sym (keep_has (λ k. ltb k h) l v) ∙ q))
    (or_cases (has v (keep (leb h) l)) (has v (keep (λ k. ltb k h) l)) (sym (has_append v (keep (leb h) l) (keep (λ k. ltb k h) l)) ∙ e))

module _ (l : List ℕ) (a : Ascending l) where
  -- the next of the one at a place is the one at the next place of the list laid twice
  pub after_at : (i : ℕ) → i < length l → after (get_or l i 0) l ≡ get_or (l ++ l) (suc i) 0
  unfolding after first
  after_at i h = rw (keep_behind l a i h) (go (dec_lt (suc i) (length l)))
    where
      go : Dec (suc i < length l) → first (get_or l i 0) (drop (suc i) l ++ l) ≡ get_or (l ++ l) (suc i) 0
      go (yes k) = rw (drop-cons l (suc i) 0 k, get_or-append l l 0 (suc i) k)
      go (no f) =
          rw (drop_of_length-le l {i = suc i} (omega arith))
          (first_at (get_or l i 0) l ∙ (get_d_any l 0 (get_or l i 0) 0 (omega arith) ∙ sym (twice_again l 0 (suc i) (omega arith))))

  after_twice : (j : ℕ) → suc j < length l + length l → after (get_or (l ++ l) j 0) l ≡ get_or (l ++ l) (suc j) 0
  after_twice j h = go (dec_lt j (length l))
    where
      go : Dec (j < length l) → after (get_or (l ++ l) j 0) l ≡ get_or (l ++ l) (suc j) 0
      go (yes k) = rw (get_or-append l l 0 j k) (after_at j k)
      go (no f) =
          let i : suc (j - length l) < length l = omega arith in
          rw (twice_again l (j - length l) j (omega arith))
          (after_at (j - length l) (omega arith)
          ∙ (get_or-append l l 0 (suc (j - length l)) i ∙ sym (twice_again l (suc (j - length l)) (suc j) (omega arith))))

  steps_twice : (i k : ℕ) → i + k < length l + length l → i < length l → steps (λ h. after h l) k (get_or l i 0) ≡ get_or (l ++ l) (i + k) 0
  unfolding steps
  steps_twice i zero h hi = let e : i + 0 ≡ i = omega arith in rw e (sym (get_or-append l l 0 i hi))
  steps_twice i (suc k) h hi =
      let e : i + suc k ≡ suc (i + k) = omega arith in
      rw (steps_twice i k (omega arith) hi, e) (after_twice (i + k) (omega arith))

  pub from_twice : (i k : ℕ) → i < length l → k < length l → get_or (from (get_or l i 0) l) k 0 ≡ get_or (l ++ l) (i + k) 0
  unfolding from
  from_twice i k hi hk = rw (keep_from l a i hi, keep_before l a i hi) (go (dec_lt (i + k) (length l)))
    where
      size : length (drop i l) ≡ length l - i
      size = length-drop i l

      go : Dec (i + k < length l) → get_or (drop i l ++ take i l) k 0 ≡ get_or (l ++ l) (i + k) 0
      go (yes h) =
          get_or-append (drop i l) (take i l) 0 k (omega (arith, size))
          ∙ (get_or-drop i l k 0 ∙ sym (get_or-append l l 0 (i + k) h))
      go (no f) =
          let e : k ≡ length (drop i l) + (i + k - length l) = omega (arith, size) in
          ap (λ (x : ℕ). get_or (drop i l ++ take i l) x 0) e
          ∙ (get_or-append-add (drop i l) (take i l) (i + k - length l) 0
          ∙ (get_or-take i l (i + k - length l) 0 (omega arith) ∙ sym (twice_again l (i + k - length l) (i + k) (omega arith))))

  module _ (h : ℕ) (e : has h l ≡ true) where
    -- k steps from h lead to the k-th of the cycle from h on
    pub steps_from : (k : ℕ) → k < length l → steps (λ x. after x l) k h ≡ get_or (from h l) k 0
    steps_from k hk =
        let r = has_at h l e in
        let s : steps (λ x. after x l) k (get_or l r.0 0) ≡ get_or (from (get_or l r.0 0) l) k 0 =
        steps_twice r.0 k (omega (arith, r.1)) r.1 ∙ sym (from_twice r.0 k r.1 hk) in
        rw r.2 at s

    -- as many steps as the list is long lead back
    pub steps_back : steps (λ x. after x l) (length l) h ≡ h
    steps_back =
        let r = has_at h l e in
        let s : steps (λ x. after x l) (length l) (get_or l r.0 0) ≡ get_or l r.0 0 =
        steps_twice r.0 (length l) (omega (arith, r.1)) r.1 ∙ twice_again l r.0 (r.0 + length l) (omega arith) in
        rw r.2 at s

    -- and no fewer do
    pub steps_first : (k : ℕ) → 0 < k → k < length l → steps (λ x. after x l) k h ≡ h → ⊥
    steps_first k h0 hk back =
        let r = has_at h l e in
        let s : get_or (l ++ l) (r.0 + k) 0 ≡ get_or l r.0 0 =
        sym (steps_twice r.0 k (omega (arith, r.1)) r.1) ∙ rw r.2 back in
        go r.0 r.1 s (dec_lt (r.0 + k) (length l))
      where
        go : (i : ℕ) → i < length l → get_or (l ++ l) (i + k) 0 ≡ get_or l i 0 → Dec (i + k < length l) → ⊥
        go i hi s (yes c) = omega (arith, a i (i + k) (omega arith) c, get_or-append l l 0 (i + k) c)
        go i hi s (no f) =
            omega (arith, a (i + k - length l) i (omega arith) hi, twice_again l (i + k - length l) (i + k) (omega arith))

    -- the cycle has the same numbers as the list, each as often
    pub from_size : length (from h l) ≡ length l
    unfolding from
    from_size = let r = has_at h l e in go r.0 r.1 r.2
      where
        go : (i : ℕ) → i < length l → get_or l i 0 ≡ h → length (keep (leb h) l ++ keep (λ k. ltb k h) l) ≡ length l
        go i hi q =
            let f : keep (leb h) l ≡ drop i l = rw q at (keep_from l a i hi) in
            let b : keep (λ k. ltb k h) l ≡ take i l = rw q at (keep_before l a i hi) in
            rw (f, b, length-append, length-drop) (omega (arith, length-take-le i l (omega arith)))

    -- the next is in the list too
    pub after_has : has (after h l) l ≡ true
    unfolding after
    after_has =
        ⊎_elim (λ (q : has next (keep (ltb h) l) ≡ true). and_right (ltb h next) (has next l) (sym (keep_has (ltb h) l next) ∙ q)) (λ q. q)
        (or_cases (has next (keep (ltb h) l)) (has next l) (sym (has_append next (keep (ltb h) l) l) ∙ found))
      where
        next : ℕ
        next = first h (keep (ltb h) l ++ l)

        found : has next (keep (ltb h) l ++ l) ≡ true
        found =
            first_has h (keep (ltb h) l ++ l) h
            (has_append h (keep (ltb h) l) l ∙ or_right (has h (keep (ltb h) l)) (has h l) e)

    one_step : steps (λ x. after x l) 1 h ≡ after h l
    unfolding steps
    one_step = refl

    -- alone exactly if it is its own next
    pub alone_after : length l ≡ 1 → after h l ≡ h
    alone_after one = sym one_step ∙ (ap (λ (n : ℕ). steps (λ x. after x l) n h) (sym one) ∙ steps_back)

    pub after_alone : after h l ≡ h → length l ≡ 1
    after_alone back = go (dec_lt 1 (length l))
      where
        go : Dec (1 < length l) → length l ≡ 1
        go (yes more) = absurd (steps_first 1 (omega arith) more (one_step ∙ back))
        go (no f) = omega (arith, (has_at h l e).1)
