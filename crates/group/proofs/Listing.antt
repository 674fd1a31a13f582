-- The anchors listed, place by place.
use mathlib.Core.Path.{◌≡◌, refl, sym, ap, ◌∙◌}
use mathlib.Core.Bool.{true, false}
use mathlib.Core.List.{List, [], ◌∷◌, ◌++◌, map}
use Prim.Native.Nat.{ℕ, ◌+◌, ◌/◌, ◌%◌, ◌≤◌}
use native.Mathlib.Numerals.{add-one}
use native.Mathlib.Omega.{arith}
use borrow.Author.Tests.{eq-eqb, ne_eqb}
use lib.Dec.{eqb}
use lib.ListN.{length, get_or, set, length-map}
use Rattle.lists.specs.Lists.{select}
use Rattle.lists.specs.Filled.{Copied}
use Rattle.lists.proofs.Fill.{fill_start, copy_more}
use Rattle.lists.proofs.Select.{select_size}
use Rattle.numbers.specs.Half.{cut, half_of}
use Rattle.group.specs.Places.{anchors_in}

map_more : (f : ℕ → ℕ) (l : List ℕ) (x : ℕ) → map f (l ++ (x ∷ [])) ≡ map f l ++ (f x ∷ [])
map_more f [] x = refl
map_more f (y ∷ ys) x = ap (◌∷◌ (f y)) (map_more f ys x)

module _ (place : ℕ → ℕ) (cells o : List ℕ) where
  pub list_start : Copied (anchors_in place cells 0) o 0 o
  unfolding anchors_in select
  list_start = record { count = refl; filled = fill_start o }

  pub list_yes : (i k x c h : ℕ) (o' o'' : List ℕ) → Copied (anchors_in place cells i) o k o' → x ≡ place i → x / 8 ≡ i → c ≡ get_or cells i 0
      → h ≡ half_of (cut c) (x % 8 % 8) → o'' ≡ set o' k h → Copied (anchors_in place cells (i + 1)) o (k + 1) o''
  unfolding anchors_in select
  list_yes i k x c h o' o'' f at own cell half q =
      let yes : eqb (place i / 8) i ≡ true = rw (← at) (eq-eqb (x / 8) i own) in
      let local : x % 8 % 8 ≡ x % 8 = omega arith in
      let here : half_of (cut (get_or cells i 0)) (place i % 8) ≡ h = rw (← at, ← cell) (sym (half ∙ ap (half_of (cut c)) local)) in
      rw (add-one i, yes, map_more, here) (copy_more (anchors_in place cells i) o o' o'' k h f q)

  pub list_no : (i k x : ℕ) (o' : List ℕ) → Copied (anchors_in place cells i) o k o' → x ≡ place i → (x / 8 ≡ i → ⊥)
      → Copied (anchors_in place cells (i + 1)) o k o'
  unfolding anchors_in select
  list_no i k x o' f at other =
      let no : eqb (place i / 8) i ≡ false = rw (← at) (ne_eqb (x / 8) i other) in
      rw (add-one i, no) f

  pub list_end : (i n k : ℕ) (o' : List ℕ) → Copied (anchors_in place cells i) o k o' → i ≤ n → n ≤ i → Copied (anchors_in place cells n) o k o'
  list_end i n k o' f a b = let e : i ≡ n = omega arith in rw e at f

pub list_size : (place : ℕ → ℕ) (cells : List ℕ) (n : ℕ) → length (anchors_in place cells n) ≤ n
unfolding anchors_in
list_size place cells n = simp length-map (select_size (λ i. eqb (place i / 8) i) n)
