-- Equal sets.
use mathlib.Core.Path.{◌≡◌, refl, sym, ◌∙◌}
use mathlib.Core.Bool.{true, false}
use mathlib.Core.List.{List}
use Prim.Native.Nat.{ℕ}
use Rattle.lists.specs.Lists.{all, has, same_set}
use Rattle.lists.proofs.Bools.{and_left, and_right, and_both, same_test}
use Rattle.lists.proofs.Members.{all_has, has_all}

-- two lists are one set exactly if the same numbers are in both
pub same_has : (a b : List ℕ) → same_set a b ≡ true → (v : ℕ) → has v a ≡ has v b
unfolding same_set
same_has a b e v =
    same_test (has v a) (has v b)
    (λ h. all_has (λ x. has x b) a (and_left (all (λ x. has x b) a) (all (λ x. has x a) b) e) v h)
    (λ h. all_has (λ x. has x a) b (and_right (all (λ x. has x b) a) (all (λ x. has x a) b) e) v h)

pub has_same : (a b : List ℕ) → ((v : ℕ) → has v a ≡ has v b) → same_set a b ≡ true
unfolding same_set
has_same a b f =
    and_both (all (λ x. has x b) a) (all (λ x. has x a) b)
    (has_all (λ x. has x b) a (λ v h. sym (f v) ∙ h))
    (has_all (λ x. has x a) b (λ v h. f v ∙ h))

pub same_refl : (a : List ℕ) → same_set a a ≡ true
same_refl a = has_same a a (λ v. refl)

pub same_sym : (a b : List ℕ) → same_set a b ≡ true → same_set b a ≡ true
same_sym a b e = has_same b a (λ v. sym (same_has a b e v))

pub same_trans : (a b c : List ℕ) → same_set a b ≡ true → same_set b c ≡ true → same_set a c ≡ true
same_trans a b c e f = has_same a c (λ v. same_has a b e v ∙ same_has b c f v)

-- equal sets have the same equal sets
pub same_test_of : (a b c : List ℕ) → same_set a b ≡ true → same_set a c ≡ same_set b c
same_test_of a b c e =
    same_test (same_set a c) (same_set b c) (λ h. same_trans b a c (same_sym a b e) h) (λ h. same_trans a b c e h)

-- one way first, then the other
pub same_set_stop : (a b : List ℕ) → all (λ x. has x b) a ≡ false → same_set a b ≡ false
unfolding same_set
same_set_stop a b e = rw e

pub same_set_go : (a b : List ℕ) → all (λ x. has x b) a ≡ true → same_set a b ≡ all (λ x. has x a) b
unfolding same_set
same_set_go a b e = rw e
