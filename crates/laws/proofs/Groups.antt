-- Groups over any links and any list of cells: closed under links, and joined by them.
use mathlib.Core.Path.{◌≡◌, refl}
use mathlib.Core.Bool.{Bool, true, ◌||◌}
use mathlib.Core.List.{List}
use mathlib.Core.Logic.{⊎_elim, ◌⊎◌}
use Prim.Native.Nat.{ℕ, zero, suc, ◌+◌, ◌<◌, ◌≤◌}
use native.Mathlib.Omega.{arith}
use borrow.Author.Tests.{eq-eqb, eqb-true}
use lib.Dec.{eqb}
use lib.ListN.{length}
use Rattle.lists.specs.Lists.{has, any, keep}
use Rattle.lists.specs.Ascending.{Ascending}
use Rattle.lists.proofs.Bools.{or_cases, or_left, or_right}
use Rattle.lists.proofs.Members.{any_has, has_any}
use Rattle.lists.proofs.Order.{keep_ascends}
use Rattle.map.specs.Groups.{Joined, here, onward, grow, grown, group_of}
use Rattle.lists.proofs.Keep.{keep_in, keep_out, keep_size, keep_grow}

module _ (link : ℕ → ℕ → Bool) (s : List ℕ) where
  -- what a list grows by
  abbrev reached : List ℕ → ℕ → Bool
  reached g b = has b g || any (λ (a : ℕ). link a b) g

  -- where cells are joined, the first is a cell of the list
  pub joined_first : {a b : ℕ} → Joined link s a b → has a s ≡ true
  joined_first (here h) = h
  joined_first (onward h l r) = h

  -- and so is the last
  pub joined_last : {a b : ℕ} → Joined link s a b → has b s ≡ true
  joined_last (here h) = h
  joined_last (onward h l r) = joined_last r

  -- joined cells are joined with all that the last is joined with
  pub joined_then : {a b c : ℕ} → Joined link s a b → Joined link s b c → Joined link s a c
  joined_then (here h) r = r
  joined_then (onward h l q) r = onward h l (joined_then q r)

  -- a list that grows to itself stays
  grown_fixed : (n : ℕ) (g : List ℕ) → grow link s g ≡ g → grown link s n g ≡ g
  unfolding grown
  grown_fixed zero g e = refl
  grown_fixed (suc n) g e = rw e (grown_fixed n g e)

  -- what is kept stays as it grows, or becomes longer
  step : (p : ℕ → Bool) → (grow link s (keep p s) ≡ keep p s) ⊎ (length (keep p s) < length (grow link s (keep p s)))
  unfolding grow
  step p = keep_grow p (reached (keep p s)) s (λ v h e. or_left _ _ (keep_in p s v e h))

  -- grown as often as cells are missing, it grows no more
  closed : (n : ℕ) (p : ℕ → Bool) → length s ≤ length (keep p s) + n → grow link s (grown link s n (keep p s)) ≡ grown link s n (keep p s)
  unfolding grown grow
  closed zero p h = ⊎_elim (λ e. e) (λ l. absurd (omega (arith, keep_size (reached (keep p s)) s))) (step p)
  closed (suc n) p h =
      ⊎_elim (λ (e : grow link s (keep p s) ≡ keep p s). rw (e, grown_fixed n (keep p s) e) e)
      (λ l. closed n (reached (keep p s)) (omega arith))
      (step p)

  -- what holds of each cell of a list, and is carried on by links, holds of each cell of the list grown
  grown_all : (P : ℕ → Type 0) → ((b c : ℕ) → P b → link b c ≡ true → has c s ≡ true → P c) → (n : ℕ) (g : List ℕ)
      → ((b : ℕ) → has b g ≡ true → P b) → (b : ℕ) → has b (grown link s n g) ≡ true → P b
  unfolding grown grow
  grown_all P on zero g f b e = f b e
  grown_all P on (suc n) g f b e = grown_all P on n (grow link s g) more b e
    where
      more : (c : ℕ) → has c (grow link s g) ≡ true → P c
      more c h =
          let r = keep_out (reached g) s c h in
          ⊎_elim (λ k. f c k) (λ k. let x = any_has _ g k in on x.0 c (f x.0 x.1) x.2 r.1)
          (or_cases _ _ r.0)

  -- each cell of a group is joined by links with the cell whose group it is
  pub group_joined : (a b : ℕ) → has b (group_of link s a) ≡ true → Joined link s a b
  unfolding group_of
  group_joined a =
      grown_all (Joined link s a) (λ b c r l h. joined_then r (onward (joined_last r) l (here h))) (length s) (keep (λ b. eqb b a) s)
      (λ b h. let r = keep_out (λ b. eqb b a) s b h in rw (← eqb-true b a r.0) (here r.1))

  -- a group is closed under links
  pub group_closed : (a b c : ℕ) → has b (group_of link s a) ≡ true → has c s ≡ true → link b c ≡ true → has c (group_of link s a) ≡ true
  unfolding group_of grow
  group_closed a b c e h l =
      rw (← closed (length s) (λ b. eqb b a) (omega arith))
      (keep_in (reached (group_of link s a)) s c (or_right (has c (group_of link s a)) _ (has_any _ (group_of link s a) b e l)) h)

  -- a cell is in its own group
  pub group_self : (a : ℕ) → has a s ≡ true → has a (group_of link s a) ≡ true
  unfolding group_of grown grow
  group_self a h = go (length s) (keep (λ b. eqb b a) s) (keep_in (λ b. eqb b a) s a (eq-eqb a a refl) h)
    where
      go : (n : ℕ) (g : List ℕ) → has a g ≡ true → has a (grown link s n g) ≡ true
      go zero g e = e
      go (suc n) g e = go n (grow link s g) (keep_in (reached g) s a (or_left _ _ e) h)

  -- a group of an ascending list ascends
  pub group_ascends : (a : ℕ) → Ascending s → Ascending (group_of link s a)
  unfolding group_of grown grow
  group_ascends a up = go (length s) (keep (λ b. eqb b a) s) (keep_ascends (λ b. eqb b a) s up)
    where
      go : (n : ℕ) (g : List ℕ) → Ascending g → Ascending (grown link s n g)
      go zero g k = k
      go (suc n) g k = go n (grow link s g) (keep_ascends (reached g) s up)

  module _ (symmetric : (a b : ℕ) → link a b ≡ true → link b a ≡ true) where
    -- where links go both ways, joined cells are joined both ways
    pub joined_back : (a b : ℕ) → Joined link s a b → Joined link s b a
    joined_back a b (here h) = here h
    joined_back a c (onward {b} h l r) = joined_then (joined_back b c r) (onward (joined_first r) (symmetric a b l) (here h))
