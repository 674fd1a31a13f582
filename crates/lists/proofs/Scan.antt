-- A scan from the front: it stops, goes on or ends by what stands at its place. Until then the list and its rest say the same.
use mathlib.Core.Path.{◌≡◌, sym, ap, ◌∙◌}
use mathlib.Core.Bool.{Bool, true, false}
use mathlib.Core.List.{List, ◌∷◌}
use Prim.Native.Nat.{ℕ, ◌+◌, ◌-◌, ◌<◌, ◌≤◌}
use native.Mathlib.Numerals.{add-one}
use lib.ListN.{length, get_or, take, drop, drop_of_length-le, length-drop}
use lib.Seq.{drop-cons, take_all}
use native.Mathlib.Omega.{arith}
use Rattle.lists.specs.Lists.{any, all, has, repeats}

rest : (l : List ℕ) (i : ℕ) → i < length l → drop i l ≡ get_or l i 0 ∷ drop (i + 1) l
rest l i h = rw (add-one i) (drop-cons l i 0 h)

-- a slice from a place on holds what is behind it
pub has_behind : (v : ℕ) (l : List ℕ) (i : ℕ) (found b : Bool) → found ≡ has v (take (length l - i) (drop i l)) → found ≡ b → has v (drop i l) ≡ b
has_behind v l i found b e q = ap (has v) (sym (take_all (length l - i) (drop i l) (omega (arith, length-drop i l)))) ∙ (sym e ∙ q)

module _ (p : ℕ → Bool) (l : List ℕ) (i : ℕ) (same : all p l ≡ all p (drop i l)) where
  pub all_stop : p (get_or l i 0) ≡ false → i < length l → false ≡ all p l
  unfolding all
  all_stop e h = sym (same ∙ (ap (all p) (rest l i h) ∙ rw e))

  pub all_go : p (get_or l i 0) ≡ true → i < length l → all p l ≡ all p (drop (i + 1) l)
  unfolding all
  all_go e h = same ∙ (ap (all p) (rest l i h) ∙ rw e)

  pub all_end : length l ≤ i → true ≡ all p l
  unfolding all
  all_end h = sym (same ∙ ap (all p) (drop_of_length-le l {i = i} h))

module _ (l : List ℕ) (i : ℕ) (same : repeats l ≡ repeats (drop i l)) where
  pub repeats_stop : has (get_or l i 0) (drop (i + 1) l) ≡ true → i < length l → true ≡ repeats l
  unfolding repeats
  repeats_stop e h = sym (same ∙ (ap repeats (rest l i h) ∙ rw e))

  pub repeats_go : has (get_or l i 0) (drop (i + 1) l) ≡ false → i < length l → repeats l ≡ repeats (drop (i + 1) l)
  unfolding repeats
  repeats_go e h = same ∙ (ap repeats (rest l i h) ∙ rw e)

  pub repeats_end : length l ≤ i → false ≡ repeats l
  unfolding repeats
  repeats_end h = sym (same ∙ ap repeats (drop_of_length-le l {i = i} h))

module _ (p : ℕ → Bool) (l : List ℕ) (i : ℕ) (same : any p l ≡ any p (drop i l)) where
  pub any_stop : p (get_or l i 0) ≡ true → i < length l → true ≡ any p l
  unfolding any
  any_stop e h = sym (same ∙ (ap (any p) (rest l i h) ∙ rw e))

  pub any_go : p (get_or l i 0) ≡ false → i < length l → any p l ≡ any p (drop (i + 1) l)
  unfolding any
  any_go e h = same ∙ (ap (any p) (rest l i h) ∙ rw e)

  pub any_end : length l ≤ i → false ≡ any p l
  unfolding any
  any_end h = sym (same ∙ ap (any p) (drop_of_length-le l {i = i} h))
