-- A test of each number of a list: what an iterator over it answers, where its closure computes the test, is the word of the definitions.
use mathlib.Core.Path.{◌≡◌, refl, sym, ap, ◌∙◌}
use mathlib.Core.Bool.{Bool, true, false, ◌&&◌}
use mathlib.Core.List.{List, [], ◌∷◌, reverse, reverse-cons}
use Prim.Native.Nat.{ℕ, ◌<◌}
use native.Mathlib.Omega.{arith}
use lib.Seq.{ext_get_or}
use Rattle.std.specs.List.{list_all, list_any, range_with_len}
use Rattle.std.proofs.lemmas.List.Folds.{list_all-append}
use Rattle.std.proofs.lemmas.List.FromFn.{length-range_with_len, get_or-range_with_len}
use lib.Dec.{eqb}
use lib.Pointwise.{pointwise}
use Rattle.lists.specs.Lists.{any, all, has, same, list_of}
use Rattle.lists.proofs.Fill.{length_list_of}
use Rattle.lists.proofs.Mapped.{list_at}

-- the slice's own comparison
pub pointwise_same : (a b : List ℕ) → pointwise eqb a b ≡ same a b
unfolding same
pointwise_same [] [] = refl
pointwise_same [] (y ∷ ys) = refl
pointwise_same (x ∷ xs) [] = refl
pointwise_same (x ∷ xs) (y ∷ ys) = ap (λ (t : Bool). eqb x y && t) (pointwise_same xs ys)

pub has_listed : (v : ℕ) (l : List ℕ) → has v l ≡ list_any (λ x. eqb x v) l
unfolding has
has_listed v [] = refl
has_listed v (x ∷ xs) = rw (has_listed v xs)

module _ (p : ℕ → Bool) where
  pub any_listed : (l : List ℕ) → any p l ≡ list_any p l
  unfolding any
  any_listed [] = refl
  any_listed (x ∷ xs) = rw (any_listed xs)

  pub all_listed : (l : List ℕ) → all p l ≡ list_all p l
  unfolding all
  all_listed [] = refl
  all_listed (x ∷ xs) = rw (all_listed xs)

  -- from the last to the first
  pub all_reversed : (l : List ℕ) → all p l ≡ list_all p (reverse l)
  unfolding all
  all_reversed [] = refl
  all_reversed (x ∷ xs) =
      rw (reverse-cons x xs, list_all-append p (reverse xs) (x ∷ []))
      (rw (all_reversed xs) (last (p x) (list_all p (reverse xs))))
    where
      last : (a b : Bool) → a && b ≡ b && (a && true)
      last true true = refl
      last true false = refl
      last false true = refl
      last false false = refl

-- the numbers below n
pub range_listed : (n : ℕ) → list_of n (λ k. k) ≡ range_with_len 0 n
range_listed n =
    ext_get_or 0 _ _ (length_list_of n (λ k. k) ∙ sym (length-range_with_len 0 n))
    (λ k h.
    let less : k < n = omega (arith, h, length_list_of n (λ k. k)) in
    omega (arith, list_at n (λ k. k) k 0 less, get_or-range_with_len 0 n k 0 less))
