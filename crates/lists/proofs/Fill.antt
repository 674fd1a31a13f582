-- An output filled from the front.
use mathlib.Core.Path.{◌≡◌, refl, sym, ◌∙◌}
use mathlib.Core.List.{List, [], ◌∷◌, ◌++◌, append_assoc}
use Prim.Native.Nat.{ℕ, zero, suc, ◌+◌, ◌<◌, ◌≤◌}
use native.Mathlib.Omega.{arith}
use lib.ListN.{length, get_or, set, take, drop, length-set, length-append}
use lib.Seq.{drop-cons, set_at, take-suc, take-append_seam}
use Rattle.lists.specs.Lists.{list_of}
use Rattle.lists.specs.Filled.{Filled, Copied}

pub fill_start : (o : List ℕ) → Filled [] o o
fill_start o = record { size = refl; wrote = λ _. refl }

-- one more, written at the place behind the last
pub fill_more : (l o o' : List ℕ) (n x : ℕ) → Filled l o o' → n ≡ length l → Filled (l ++ (x ∷ [])) o (set o' n x)
fill_more l o o' n x f e = record {
  size = length-set o' n x ∙ f.size;
  wrote = λ h.
      let size : length (l ++ (x ∷ [])) ≡ length l + 1 = length-append l (x ∷ []) in
      let less : length l < length o = omega arith in
      let was : o' ≡ l ++ (get_or o (length l) 0 ∷ drop (suc (length l)) o) = rw (← drop-cons o (length l) 0 less) (f.wrote (omega arith)) in
      let behind : length (l ++ (x ∷ [])) ≡ suc (length l) = omega arith in
      rw (was, e, set_at l (get_or o (length l) 0) (drop (suc (length l)) o) x (length l) refl, append_assoc, behind) refl;
}

-- what is filled stands first
pub filled_take : (l o o' : List ℕ) → Filled l o o' → length l ≤ length o → take (length l) o' ≡ l
filled_take l o o' f h = rw (f.wrote h) (take-append_seam l (drop (length l) o))

pub length_list_of : (n : ℕ) (f : ℕ → ℕ) → length (list_of n f) ≡ n
unfolding list_of
length_list_of zero f = refl
length_list_of (suc n) f = length-append (list_of n f) (f n ∷ []) ∙ omega (arith, length_list_of n f)

-- one more, counted
pub copy_more : (l o o' o'' : List ℕ) (n x : ℕ) → Copied l o n o' → o'' ≡ set o' n x → Copied (l ++ (x ∷ [])) o (n + 1) o''
copy_more l o o' o'' n x f e = record {
  count = omega (arith, length-append l (x ∷ []), f.count);
  filled = rw e (fill_more l o o' n x f.filled f.count);
}

-- the first n of a list, read place by place
pub list_of_take : (l : List ℕ) (n : ℕ) → n ≤ length l → list_of n (λ i. get_or l i 0) ≡ take n l
unfolding list_of
list_of_take l zero h = refl
list_of_take l (suc n) h = rw (list_of_take l n (omega arith)) (sym (take-suc l n 0 h))
