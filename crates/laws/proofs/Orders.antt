-- The order of the list of live cells does not matter.
use mathlib.Core.Path.{◌≡◌, refl, sym, ap, ◌∙◌, fun_ext}
use mathlib.Core.Bool.{Bool, true, false, cond, ◌&&◌, ◌||◌}
use mathlib.Core.List.{List, [], ◌∷◌, ◌++◌}
use Prim.Native.Nat.{ℕ}
use borrow.Author.Tests.{eq-eqb, eqb-true}
use lib.Dec.{eqb}
use Rattle.lists.specs.Lists.{has, repeats, all}
use Rattle.lists.proofs.Bools.{clash, or_left}
use Rattle.numbers.specs.declared.Caps.{Caps}
use Rattle.map.specs.Cells.{Body, Live, body_in, map_of}
use Rattle.map.specs.Afresh.{Shuffled, none, same, swapped, then, numbers, Distinct}
use Rattle.lists.proofs.Counts.{neither, eqb_swap}

-- a list has its own cells
pub shuffled_self : (a : List Live) → Shuffled a a
shuffled_self [] = none
shuffled_self (x ∷ xs) = same (shuffled_self xs)

-- a cell of the list may be moved to its front
pub shuffled_front : (x : Live) (a b : List Live) → Shuffled (a ++ (x ∷ b)) (x ∷ (a ++ b))
shuffled_front x [] b = shuffled_self (x ∷ b)
shuffled_front x (y ∷ a) b = then (same (shuffled_front x a b)) swapped

-- the first number of a distinct list is not in the rest, and the rest is distinct
pub distinct_parts : (x : Live) (a : List Live) → Distinct (x ∷ a) → (has x.number (numbers a) ≡ false) × Distinct a
unfolding repeats
distinct_parts x a d = neither (has x.number (numbers a)) (repeats (numbers a)) d

-- a shuffled list has the same numbers
pub shuffled_has : {a b : List Live} → Shuffled a b → (v : ℕ) → has v (numbers a) ≡ has v (numbers b)
unfolding has
shuffled_has none v = refl
shuffled_has (same {x} s) v = rw (shuffled_has s v)
shuffled_has (swapped {x} {y} {a}) v = turn (eqb x.number v) (eqb y.number v)
  where
    turn : (p q : Bool) → p || (q || has v (numbers a)) ≡ q || (p || has v (numbers a))
    turn true true = refl
    turn true false = refl
    turn false q = refl
shuffled_has (then s t) v = shuffled_has s v ∙ shuffled_has t v

-- and repeats one of them where the list does
shuffled_repeats : {a b : List Live} → Shuffled a b → repeats (numbers a) ≡ repeats (numbers b)
unfolding repeats has
shuffled_repeats none = refl
shuffled_repeats (same {x} s) = rw (shuffled_repeats s, shuffled_has s x.number)
shuffled_repeats (swapped {x} {y} {a}) =
    rw (eqb_swap x.number y.number) (turn (eqb y.number x.number) (has x.number (numbers a)) (has y.number (numbers a)))
  where
    turn : (p q r : Bool) → (p || q) || (r || repeats (numbers a)) ≡ (p || r) || (q || repeats (numbers a))
    turn true q r = refl
    turn false true true = refl
    turn false true false = refl
    turn false false r = refl
shuffled_repeats (then s t) = shuffled_repeats s ∙ shuffled_repeats t

-- the numbers of a list stay distinct as it is shuffled
pub shuffled_distinct : {a b : List Live} → Shuffled a b → Distinct a → Distinct b
shuffled_distinct s d = sym (shuffled_repeats s) ∙ d

-- all of a shuffled list pass where all of the list do
pub shuffled_all : {a b : List Live} (p : Live → Bool) → Shuffled a b → all p a ≡ all p b
unfolding all
shuffled_all p none = refl
shuffled_all p (same {x} s) = rw (shuffled_all p s)
shuffled_all p (swapped {x} {y} {a}) = turn (p x) (p y)
  where
    turn : (s t : Bool) → s && (t && all p a) ≡ t && (s && all p a)
    turn true t = refl
    turn false true = refl
    turn false false = refl
shuffled_all p (then s t) = shuffled_all p s ∙ shuffled_all p t

-- under each number stands the same in a shuffled list
pub shuffled_same : {a b : List Live} → Shuffled a b → Distinct a → (c : ℕ) → body_in a c ≡ body_in b c
unfolding body_in repeats has
shuffled_same none d c = refl
shuffled_same (same {x} {a} s) d c = rw (shuffled_same s (distinct_parts x a d).1 c)
shuffled_same (swapped {x} {y} {a}) d c = turn (eqb x.number c) refl (eqb y.number c) refl
  where
    turn : (p : Bool) → eqb x.number c ≡ p → (q : Bool) → eqb y.number c ≡ q
        → cond p x.body (cond q y.body (body_in a c)) ≡ cond q y.body (cond p x.body (body_in a c))
    turn true e true f =
        let two : y.number ≡ x.number = eqb-true _ c f ∙ sym (eqb-true _ c e) in
        absurd (clash (or_left _ (has x.number (numbers a)) (eq-eqb _ _ two)) (distinct_parts x (y ∷ a) d).0)
    turn true e false f = refl
    turn false e q f = refl
shuffled_same (then s t) d c = shuffled_same s d c ∙ shuffled_same t (shuffled_distinct s d) c

module _ (caps : Caps) (a b : List Live) where
  -- where the same stands under each number, it is the same map
  pub same_bodies : ((c : ℕ) → body_in a c ≡ body_in b c) → map_of caps a ≡ map_of caps b
  unfolding map_of
  same_bodies f = ap (λ (at : ℕ → Body). record { caps = caps; at = at }) (fun_ext f)

  -- a shuffled list gives the same map
  pub order_free : Shuffled a b → Distinct a → map_of caps a ≡ map_of caps b
  order_free s d = same_bodies (shuffled_same s d)
