-- The number after one in a list made place by place.
use mathlib.Core.Path.{◌≡◌, refl, sym, ap, ◌∙◌}
use mathlib.Core.Bool.{Bool, true, false, cond}
use mathlib.Core.List.{List, [], ◌∷◌, ◌++◌}
use Prim.Native.Nat.{ℕ, zero, suc, ◌+◌, ◌<◌, ◌≤◌}
use native.Mathlib.Decide.{le_ind}
use native.Mathlib.Numerals.{add-one}
use native.Mathlib.Omega.{arith}
use borrow.Author.Tests.{lt-ltb, le-ltb}
use lib.Dec.{ltb}
use lib.ListN.{get_or, length}
use Rattle.lists.specs.Lists.{keep, first, after, list_of}
use Rattle.lists.proofs.Members.{first_at}
use Rattle.lists.proofs.Keep.{keep_yes, keep_no}
use Rattle.lists.proofs.Mapped.{list_at}

module _ (h : ℕ) (g : ℕ → ℕ) where
  -- none of the first i is above h
  abbrev pub Above : ℕ → Type 0
  Above i = keep (ltb h) (list_of i g) ≡ []

  pub above_start : Above 0
  unfolding keep list_of
  above_start = refl

  pub above_more : (i x : ℕ) → Above i → x ≡ g i → x ≤ h → Above (i + 1)
  unfolding list_of
  above_more i x a e l = rw (add-one i) (keep_no (ltb h) (list_of i g) (g i) (le-ltb h (g i) (omega (arith, e))) ∙ a)

  -- the first that is
  found : (i n : ℕ) → Above i → h < g i → suc i ≤ n → (rest : List ℕ) × (keep (ltb h) (list_of n g) ≡ g i ∷ rest)
  unfolding list_of
  found i n a l less =
      le_ind (λ (m : ℕ). (rest : List ℕ) × (keep (ltb h) (list_of m g) ≡ g i ∷ rest))
      ([], keep_yes (ltb h) (list_of i g) (g i) (lt-ltb h (g i) l) ∙ ap (λ (z : List ℕ). z ++ (g i ∷ [])) a)
      (λ m k ih. more m (ltb h (g m)) refl ih) n less
    where
      more : (m : ℕ) (b : Bool) → ltb h (g m) ≡ b → ((rest : List ℕ) × (keep (ltb h) (list_of m g) ≡ g i ∷ rest))
          → (rest : List ℕ) × (keep (ltb h) (list_of m g ++ (g m ∷ [])) ≡ g i ∷ rest)
      more m true e r = (r.0 ++ (g m ∷ []), keep_yes (ltb h) (list_of m g) (g m) e ∙ ap (λ (z : List ℕ). z ++ (g m ∷ [])) r.1)
      more m false e r = (r.0, keep_no (ltb h) (list_of m g) (g m) e ∙ r.1)

  pub after_found : (i n x : ℕ) → Above i → x ≡ g i → h < x → i < n → x ≡ after h (list_of n g)
  unfolding after first
  after_found i n x a e l less =
      let r = found i n a (omega (arith, e)) less in
      rw r.1 e

  -- none at all: the first of the list, if there is one
  pub after_none : (i n : ℕ) → Above i → i ≤ n → n ≤ i → n ≡ 0 → h ≡ after h (list_of n g)
  unfolding after first list_of keep
  after_none i n a p q z = rw z refl

  pub after_first : (i n x : ℕ) → Above i → i ≤ n → n ≤ i → (n ≡ 0 → ⊥) → x ≡ g 0 → x ≡ after h (list_of n g)
  unfolding after
  after_first i n x a p q some e =
      let z : i ≡ n = omega arith in
      rw (rw z at a) (e ∙ sym (first_at h (list_of n g) ∙ list_at n g 0 h (omega arith)))
