-- The live cells are the wanted ones, each once: that is, the wanted list has the live cells in some order.
use mathlib.Core.Path.{◌≡◌, refl, sym, ap, ◌∙◌, subst}
use mathlib.Core.Bool.{Bool, true, false, not, cond, ◌&&◌, ◌||◌}
use mathlib.Core.List.{List, [], ◌∷◌, ◌++◌, map}
use mathlib.Core.Logic.{◌⊎◌, inl, inr}
use Prim.Native.Nat.{ℕ, ◌<◌}
use borrow.Author.Tests.{eq-eqb, eqb-true}
use lib.Dec.{eqb}
use Rattle.lists.specs.Lists.{has, all, every, repeats, select}
use Rattle.lists.proofs.Bools.{clash, either, not_true_false, same_test, and_left, and_right, and_both, or_left, or_right, or_cases, not_of_false, not_false_true}
use Rattle.lists.proofs.Every.{every_at, at_every}
use Rattle.lists.proofs.Select.{select_in, select_out}
use Rattle.map.specs.Cells.{Body, Live, Map, body_in, live, live_at, live_cells}
use Rattle.map.specs.Afresh.{Shuffled, none, same, swapped, then, numbers, Distinct}
use Rattle.map.specs.Sound.{Sound, TwoSolids}
use Rattle.laws.proofs.Orders.{shuffled_self, shuffled_front, distinct_parts, shuffled_has, shuffled_distinct, shuffled_all}
use Rattle.laws.proofs.Rebuild.{live_tidy}
use Rattle.wanted.specs.Wanted.{stands, as_wanted}
use Rattle.wanted.proofs.Standing.{stands_is, is_stands}

-- shuffled back
pub shuffled_back : {a b : List Live} → Shuffled a b → Shuffled b a
shuffled_back none = none
shuffled_back (same s) = same (shuffled_back s)
shuffled_back swapped = swapped
shuffled_back (then s t) = then (shuffled_back t) (shuffled_back s)

-- a list parted at the cell of a number
record Parted (k : ℕ) (l : List Live) : Type 0 where
  before : List Live
  at : Live
  behind : List Live
  is : l ≡ before ++ (at ∷ behind)
  number : at.number ≡ k

parted : (k : ℕ) (l : List Live) → has k (numbers l) ≡ true → Parted k l
unfolding has
parted k [] e = absurd (clash e refl)
parted k (x ∷ l) e = go (eqb x.number k) refl e (parted k l)
  where
    go : (b : Bool) → eqb x.number k ≡ b → b || has k (numbers l) ≡ true → (has k (numbers l) ≡ true → Parted k l) → Parted k (x ∷ l)
    go true q e f = record { before = []; at = x; behind = l; is = refl; number = eqb-true _ _ q }
    go false q e f =
        let p = f e in
        record { before = x ∷ p.before; at = p.at; behind = p.behind; is = ap (λ (r : List Live). x ∷ r) p.is; number = p.number }

-- two lists of numbers that are the same with one more number, which neither has, are the same
without : (n : ℕ) (a b : List ℕ) → has n a ≡ false → has n b ≡ false → (k : ℕ) → eqb n k || has k a ≡ eqb n k || has k b → has k a ≡ has k b
without n a b na nb k h = go (eqb n k) refl h
  where
    go : (t : Bool) → eqb n k ≡ t → t || has k a ≡ t || has k b → has k a ≡ has k b
    go true e h = ap (λ (j : ℕ). has j a) (sym (eqb-true n k e)) ∙ (na ∙ (sym nb ∙ ap (λ (j : ℕ). has j b) (eqb-true n k e)))
    go false e h = h

-- a list whose cells stand in a map, each number once, has the cells of another such list with the same numbers in some order
module _ (m : Map) where
  -- the cell of that number is the one that stands
  parted_first : (x : Live) → stands m x ≡ true → (b : List Live) (p : Parted x.number b) → all (stands m) b ≡ true → p.at ≡ x
  unfolding all
  parted_first x sa b p sb =
      let front : Shuffled b (p.at ∷ (p.before ++ p.behind)) =
      subst (λ (l : List Live). Shuffled l (p.at ∷ (p.before ++ p.behind))) (sym p.is) (shuffled_front p.at p.before p.behind) in
      let here : m.at p.at.number ≡ p.at.body = (stands_is m p.at (and_left _ _ (sym (shuffled_all (stands m) front) ∙ sb))).1 in
      let body : p.at.body ≡ x.body = sym here ∙ (ap (λ (k : ℕ). m.at k) p.number ∙ (stands_is m x sa).1) in
      rw (p.number, body)

  parted_front : (x : Live) (b : List Live) (p : Parted x.number b) → p.at ≡ x → Shuffled b (x ∷ (p.before ++ p.behind))
  parted_front x b p e =
      subst (λ (l : List Live). Shuffled l (x ∷ (p.before ++ p.behind))) (sym (p.is ∙ ap (λ (y : Live). p.before ++ (y ∷ p.behind)) e))
      (shuffled_front x p.before p.behind)

  one_order : (a b : List Live) → all (stands m) a ≡ true → all (stands m) b ≡ true → Distinct a → Distinct b
      → ((k : ℕ) → has k (numbers a) ≡ has k (numbers b)) → Shuffled a b
  unfolding all has
  one_order [] [] sa sb da db f = none
  one_order [] (y ∷ b) sa sb da db f = absurd (clash (f y.number ∙ or_left _ _ (eq-eqb y.number y.number refl)) refl)
  one_order (x ∷ a) b sa sb da db f =
      let p = parted x.number b (sym (f x.number) ∙ or_left _ _ (eq-eqb x.number x.number refl)) in
      let first = parted_first x (and_left _ _ sa) b p sb in
      let front : Shuffled b (x ∷ (p.before ++ p.behind)) = parted_front x b p first in
      let parts = distinct_parts x a da in
      let others = distinct_parts x (p.before ++ p.behind) (shuffled_distinct front db) in
      then (same (one_order a (p.before ++ p.behind) (and_right (stands m x) _ sa)
      (and_right (stands m x) _ (sym (shuffled_all (stands m) front) ∙ sb)) parts.1 others.1
      (λ k. without x.number (numbers a) (numbers (p.before ++ p.behind)) parts.0 others.0 k (f k ∙ shuffled_has front k))))
      (shuffled_back front)

  numbers_of : (l : List ℕ) → numbers (map (live_at m) l) ≡ l
  numbers_of [] = refl
  numbers_of (x ∷ xs) = rw (numbers_of xs)

  live_stand : (l : List ℕ) → ((k : ℕ) → has k l ≡ true → live m k ≡ true) → all (stands m) (map (live_at m) l) ≡ true
  unfolding all has
  live_stand [] f = refl
  live_stand (x ∷ l) f =
      and_both _ _ (is_stands m (live_at m x) (f x (or_left _ _ (eq-eqb x x refl))) refl) (live_stand l (λ k h. f k (or_right (eqb x k) _ h)))

  -- the list of live cells: each stands, and the numbers are the live ones
  cells_stand : all (stands m) (live_cells m) ≡ true
  unfolding live_cells
  cells_stand = live_stand _ (λ k h. (select_out (live m) m.caps.cells k h).1)

  cells_has : (k : ℕ) → has k (numbers (live_cells m)) ≡ has k (select (live m) m.caps.cells)
  unfolding live_cells
  cells_has k = ap (has k) (numbers_of (select (live m) m.caps.cells))

  all_stand : (l : List Live) → all (stands m) l ≡ true → (k : ℕ) → has k (numbers l) ≡ true → live m k ≡ true
  unfolding all has
  all_stand [] s k e = absurd (clash e refl)
  all_stand (x ∷ l) s k e = go (eqb x.number k) refl e (all_stand l (and_right (stands m x) _ s) k)
    where
      go : (t : Bool) → eqb x.number k ≡ t → t || has k (numbers l) ≡ true → (has k (numbers l) ≡ true → live m k ≡ true) → live m k ≡ true
      go true q e f = ap (live m) (sym (eqb-true _ _ q)) ∙ (stands_is m x (and_left _ _ s)).0
      go false q e f = f e

  module _ (s : Sound m) (t : TwoSolids m) (cells : List Live) where
    pub wanted_shuffled : as_wanted m cells ≡ true → Shuffled (live_cells m) cells
    unfolding as_wanted
    wanted_shuffled e =
        one_order (live_cells m) cells cells_stand stand (live_tidy m s t).distinct (not_false_true _ (and_left _ _ rest)) numbers_same
      where
        stand : all (stands m) cells ≡ true
        stand = and_left _ _ e

        rest : not (repeats (numbers cells)) && every m.caps.cells (λ c. not (live m c) || has c (numbers cells)) ≡ true
        rest = and_right (all (stands m) cells) _ e

        listed : (k : ℕ) → live m k ≡ true → has k (numbers cells) ≡ true
        listed k l =
            go (or_cases _ _ (every_at (λ c. not (live m c) || has c (numbers cells)) m.caps.cells (and_right (not (repeats (numbers cells))) _ rest) k (s.below k l)))
          where
            go : (not (live m k) ≡ true) ⊎ (has k (numbers cells) ≡ true) → has k (numbers cells) ≡ true
            go (inl n) = absurd (clash l (not_false_true _ n))
            go (inr h) = h

        numbers_same : (k : ℕ) → has k (numbers (live_cells m)) ≡ has k (numbers cells)
        numbers_same k =
            cells_has k
            ∙ same_test _ _ (λ h. listed k (select_out (live m) m.caps.cells k h).1)
            (λ h. let l = all_stand cells stand k h in select_in (live m) m.caps.cells k (s.below k l) l)

    pub shuffled_wanted : Shuffled (live_cells m) cells → as_wanted m cells ≡ true
    unfolding as_wanted
    shuffled_wanted o =
        and_both _ _ (sym (shuffled_all (stands m) o) ∙ cells_stand)
        (and_both _ _ (not_of_false _ (shuffled_distinct o (live_tidy m s t).distinct))
        (at_every (λ c. not (live m c) || has c (numbers cells)) m.caps.cells (λ k below. go k below (live m k) refl)))
      where
        go : (k : ℕ) → k < m.caps.cells → (b : Bool) → live m k ≡ b → not (live m k) || has k (numbers cells) ≡ true
        go k below true l = or_right (not (live m k)) _ (sym (shuffled_has o k) ∙ (cells_has k ∙ select_in (live m) m.caps.cells k below l))
        go k below false l = or_left _ _ (not_of_false _ l)
