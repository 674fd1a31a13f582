-- The marks of a facet looked at where they stand, one after another.
use mathlib.Core.Path.{◌≡◌, refl, sym, ◌∙◌}
use mathlib.Core.Bool.{Bool, true, false, ◌&&◌}
use mathlib.Core.List.{List, ◌∷◌}
use Prim.Native.Nat.{ℕ, suc, ◌<◌, ◌≤◌, min}
use native.Mathlib.Decide.{dec_lt}
use native.Mathlib.Omega.{arith}
use borrow.Author.Tests.{eq-eqb, ne_eqb}
use lib.Dec.{eqb}
use lib.ListN.{length, get_or, get_or-eq_default}
use Rattle.lists.specs.Lists.{has, all, same_set, list_of}
use Rattle.lists.proofs.Bools.{clash, not_true_false, or_right}
use Rattle.lists.proofs.Members.{has_at, at_has, all_has, has_all}
use Rattle.lists.proofs.Fill.{length_list_of}
use Rattle.lists.proofs.Mapped.{list_at}
use Rattle.lists.proofs.Alike.{and_false}
use Rattle.lists.proofs.Sets.{same_has}
use Rattle.shapes.specs.Sizes.{most_corners}
use Rattle.shapes.specs.Table.{entry}
use Rattle.facet.specs.Facet.{set_mark, set_in}

-- 0 or one of the marks
module _ (marks : List ℕ) (x : ℕ) where
  pub known_none : x ≡ 0 → true ≡ has x (0 ∷ marks)
  unfolding has
  known_none e = rw (eq-eqb 0 x (sym e))

  pub known_mark : (x ≡ 0 → ⊥) → (r : Bool) → r ≡ has x marks → r ≡ has x (0 ∷ marks)
  unfolding has
  known_mark ne r q = rw (ne_eqb 0 x (λ z. ne (sym z))) q

place_known : (marks : List ℕ) (p : ℕ) → has (get_or marks p 0) (0 ∷ marks) ≡ true
unfolding has
place_known marks p = go (dec_lt p (length marks))
  where
    go : Dec (p < length marks) → has (get_or marks p 0) (0 ∷ marks) ≡ true
    go (yes l) = or_right (eqb 0 (get_or marks p 0)) (has (get_or marks p 0) marks) (at_has marks p l)
    go (no g) = sym (known_none marks (get_or marks p 0) (get_or-eq_default marks 0 {n = p} (omega arith)))

module _ (a b : List ℕ) where
  -- the second list not within the first, or within it
  pub not_within : all (λ x. has x a) b ≡ false → false ≡ same_set a b
  unfolding same_set
  not_within e = rw e (sym (and_false (all (λ x. has x b) a)))

  pub is_within : all (λ x. has x a) b ≡ true → (r : Bool) → r ≡ all (λ x. has x b) a → r ≡ same_set a b
  unfolding same_set
  is_within e r q = rw e (q ∙ sym (and_true (all (λ x. has x b) a)))
    where
      and_true : (c : Bool) → c && true ≡ c
      and_true true = refl
      and_true false = refl

module _ (rows : List (List (List ℕ))) (t f : ℕ) (marks : List ℕ) where
  -- each mark of a facet is one of the marks, or 0 for a place beyond them
  pub held_known : (x : ℕ) → has x (set_in rows t f marks) ≡ true → has x (0 ∷ marks) ≡ true
  unfolding set_in set_mark
  held_known x h =
      let n : ℕ = min most_corners (entry rows t f 0) in
      let g : ℕ → ℕ = λ k. get_or marks (entry rows t f (suc k)) 0 in
      let r = has_at x (list_of n g) h in
      let here : g r.0 ≡ x = sym (list_at n g r.0 0 (omega (arith, r.1, length_list_of n g))) ∙ r.2 in
      rw here at (place_known marks (entry rows t f (suc r.0)))

  -- so a set that has another number is not the facet's
  pub not_spanned : (set : List ℕ) → all (λ x. has x (0 ∷ marks)) set ≡ false → same_set set (set_in rows t f marks) ≡ false
  not_spanned set e =
      not_true_false (same_set set (set_in rows t f marks))
      (λ q. clash (has_all (λ x. has x (0 ∷ marks)) set (λ x h. held_known x (sym (same_has set (set_in rows t f marks) q x) ∙ h))) e)

  pub within_more : (set : List ℕ) (k x : ℕ) (r : Bool) → x ≡ set_mark rows t f marks k → r ≡ has x set → r ≡ true → has (set_mark rows t f marks k) set ≡ true
  within_more set k x r here q e = rw (← here) (sym q ∙ e)

  -- as many corners as the table says, four at most
  module _ (n e : ℕ) (size : n ≡ min most_corners e) (count : e ≡ entry rows t f 0) where
    held_at : (k : ℕ) → k < n → has (set_mark rows t f marks k) (set_in rows t f marks) ≡ true
    unfolding set_in
    held_at k h =
        rw (← count, ← size)
        (rw (list_at n (set_mark rows t f marks) k 0 h) at (at_has (list_of n (set_mark rows t f marks)) k (omega (arith, length_list_of n (set_mark rows t f marks)))))

    at_held : (v : ℕ) → has v (set_in rows t f marks) ≡ true → (k : ℕ) × (k < n) × (set_mark rows t f marks k ≡ v)
    unfolding set_in
    at_held v h =
        let r = has_at v (list_of n (set_mark rows t f marks)) (rw (← count, ← size) at h) in
        let below : r.0 < n = omega (arith, r.1, length_list_of n (set_mark rows t f marks)) in
        (r.0, below, sym (list_at n (set_mark rows t f marks) r.0 0 below) ∙ r.2)

    pub held_stop : (k x v : ℕ) → x ≡ set_mark rows t f marks k → k < n → x ≡ v → true ≡ has v (set_in rows t f marks)
    held_stop k x v here h e = sym (rw (sym here ∙ e) at (held_at k h))

    pub held_end : (k v : ℕ) → ((j : ℕ) → j < k → set_mark rows t f marks j ≡ v → ⊥) → n ≤ k → false ≡ has v (set_in rows t f marks)
    held_end k v none h = sym (not_true_false (has v (set_in rows t f marks)) (λ q. let r = at_held v q in none r.0 (omega (arith, r.1)) r.2))

    pub within_stop : (set : List ℕ) (k x : ℕ) (r : Bool) → x ≡ set_mark rows t f marks k → r ≡ has x set → k < n → r ≡ false
        → false ≡ all (λ x. has x set) (set_in rows t f marks)
    within_stop set k x r here q h e =
        sym (not_true_false (all (λ x. has x set) (set_in rows t f marks))
        (λ a. clash (all_has (λ x. has x set) (set_in rows t f marks) a x (rw here (held_at k h))) (sym q ∙ e)))

    pub within_end : (set : List ℕ) (k : ℕ) → ((j : ℕ) → j < k → has (set_mark rows t f marks j) set ≡ true) → n ≤ k
        → true ≡ all (λ x. has x set) (set_in rows t f marks)
    within_end set k were h =
        sym (has_all (λ x. has x set) (set_in rows t f marks)
        (λ x q. let r = at_held x q in rw r.2 at (were r.0 (omega (arith, r.1)))))
