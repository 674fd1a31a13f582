-- Lists made place by place, kept and mapped.
use mathlib.Core.Path.{◌≡◌, refl, sym, ◌∙◌}
use mathlib.Core.Bool.{Bool, true, false, cond}
use mathlib.Core.List.{List, [], ◌∷◌, ◌++◌, map}
use mathlib.Core.Logic.{⊎_elim}
use Prim.Native.Nat.{ℕ, zero, suc, ◌+◌, ◌<◌, ◌≤◌}
use native.Mathlib.Nat.{not-suc-le-zero, eq-or-lt_of_le}
use native.Mathlib.Numerals.{add-one}
use native.Mathlib.Omega.{arith}
use borrow.Author.Tests.{eq-eqb}
use lib.Dec.{eqb}
use lib.ListN.{set, length, get_or, length-map, get_or-append, get_or-map}
use lib.Seq.{get_or_at, ext_get_or}
use Rattle.lists.specs.Lists.{has, keep, list_of}
use Rattle.lists.specs.Ascending.{Ascending}
use Rattle.lists.specs.Filled.{Filled, Copied}
use Rattle.lists.proofs.Bools.{or_left, or_right}
use Rattle.lists.proofs.Members.{at_has}
use Rattle.lists.proofs.Alike.{map_at}
use Rattle.lists.proofs.Fill.{fill_start, fill_more, filled_take, length_list_of, list_of_take}
use Rattle.lists.proofs.Order.{asc_none, asc_cons, asc_first, asc_rest}

-- what stands at a place of a list made place by place
pub list_at : (n : ℕ) (f : ℕ → ℕ) (k d : ℕ) → k < n → get_or (list_of n f) k d ≡ f k
unfolding list_of
list_at zero f k d h = absurd (not-suc-le-zero h)
list_at (suc n) f k d h =
    ⊎_elim (λ (e : k ≡ n). rw e (get_or_at (list_of n f) (f n) [] d n (length_list_of n f)))
    (λ (l : k < n). get_or-append (list_of n f) (f n ∷ []) d k (rw length_list_of l) ∙ list_at n f k d l)
    (eq-or-lt_of_le {n = k} {m = n} (omega arith))

-- a list mapped is a list made place by place
pub list_map : (l : List ℕ) (f g : ℕ → ℕ) → ((k : ℕ) → k < length l → f k ≡ g (get_or l k 0)) → list_of (length l) f ≡ map g l
list_map l f g same =
    ext_get_or (g 0) (list_of (length l) f) (map g l) (length_list_of (length l) f ∙ sym (length-map l g))
    (λ k h.
    let less : k < length l = rw length_list_of at h in
    list_at (length l) f k (g 0) less ∙ (same k less ∙ sym (get_or-map g l k 0)))

-- mappings that agree on the list
pub map_same : (f g : ℕ → ℕ) (l : List ℕ) → ((v : ℕ) → has v l ≡ true → f v ≡ g v) → map f l ≡ map g l
unfolding has
map_same f g [] e = refl
map_same f g (x ∷ xs) e =
    rw (e x (or_left _ _ (eq-eqb x x refl)), map_same f g xs (λ v h. e v (or_right (eqb x v) _ h)))

-- what ascends and is mapped in its order ascends
pub map_ascends : (f : ℕ → ℕ) (l : List ℕ) → Ascending l → ((x y : ℕ) → has x l ≡ true → has y l ≡ true → x < y → f x < f y) → Ascending (map f l)
unfolding has
map_ascends f [] a up = asc_none
map_ascends f (x ∷ xs) a up =
    asc_cons (f x) (map f xs)
    (λ v e.
    let r = map_at f xs v e in
    let there : has (get_or xs r.0 0) xs ≡ true = at_has xs r.0 r.1 in
    rw r.2 at (up x (get_or xs r.0 0) (or_left _ _ (eq-eqb x x refl)) (or_right (eqb x (get_or xs r.0 0)) _ there)
    (asc_first x xs a (get_or xs r.0 0) there)))
    (map_ascends f xs (asc_rest x xs a) (λ y z h k l. up y z (or_right (eqb x y) _ h) (or_right (eqb x z) _ k) l))

-- one more at the end: kept if it passes
pub keep_end : (p : ℕ → Bool) (l : List ℕ) (x : ℕ) → keep p (l ++ (x ∷ [])) ≡ keep p l ++ cond (p x) (x ∷ []) []
unfolding keep
keep_end p [] x = refl
keep_end p (y ∷ ys) x = go (p y) (keep_end p ys x)
  where
    go : (b : Bool) → keep p (ys ++ (x ∷ [])) ≡ keep p ys ++ cond (p x) (x ∷ []) []
        → cond b (y ∷ keep p (ys ++ (x ∷ []))) (keep p (ys ++ (x ∷ []))) ≡ cond b (y ∷ keep p ys) (keep p ys) ++ cond (p x) (x ∷ []) []
    go true e = rw e
    go false e = e

-- made place by place in an output
module _ (g : ℕ → ℕ) (o : List ℕ) where
  pub list_start : Filled (list_of 0 g) o o
  unfolding list_of
  list_start = fill_start o

  pub list_more : (k : ℕ) (o' o'' : List ℕ) (x : ℕ) → Filled (list_of k g) o o' → o'' ≡ set o' k x → x ≡ g k → Filled (list_of (k + 1) g) o o''
  unfolding list_of
  list_more k o' o'' x f e v = rw (add-one k, e, v) (fill_more (list_of k g) o o' k (g k) f (sym (length_list_of k g)))

-- the first n numbers of a copied list
pub copied_list : (l zeros from : List ℕ) (n : ℕ) → n ≤ length zeros → Copied l zeros n from → list_of n (λ i. get_or from i 0) ≡ l
copied_list l zeros from n room c =
    list_of_take from n (omega (arith, c.filled.size)) ∙ rw c.count (filled_take l zeros from c.filled (omega (arith, c.count)))
