-- A verdict on a row of checks is the verdict whatever the values.
use mathlib.Core.Path.{◌≡◌, refl, sym, ap}
use mathlib.Core.Bool.{Bool, true, false, cond, not, ◌&&◌}
use mathlib.Core.List.{List, [], ◌∷◌, ◌++◌}
use Prim.Native.Nat.{ℕ}
use native.Mathlib.Omega.{arith}
use borrow.Author.Tests.{eqb-false, not-true}
use lib.Dec.{eqb}
use Rattle.lists.specs.Lists.{all}
use Rattle.lists.proofs.Bools.{and_left, and_right}
use Rattle.map.specs.declared.Refusal.{Refusal}
use Rattle.map.specs.Answers.{Check, Answer, answer}
use Rattle.map.proofs.Refusals.{number_some}
use Rattle.map.specs.Says.{given, refused}

-- no check of a row has it
abbrev pub Numbered : List Check → Type 0
Numbered checks = all (λ (c : Check). not (eqb c.number 0)) checks ≡ true

pub refused_values : (checks : List Check) (r : Refusal) (values : List ℕ) → refused r ≡ answer checks [] → refused r ≡ answer checks values
unfolding refused answer
refused_values [] r values e = absurd (omega (arith, number_some r, ap (λ (a : Answer). a.refusal) e))
refused_values (c ∷ cs) r values e = go c.fails e (refused_values cs r values)
  where
    go : (b : Bool) → refused r ≡ cond b (record { refusal = c.number; values = [] }) (answer cs [])
        → (refused r ≡ answer cs [] → refused r ≡ answer cs values) → refused r ≡ cond b (record { refusal = c.number; values = [] }) (answer cs values)
    go true e f = e
    go false e f = f e

pub given_values : (checks : List Check) (values : List ℕ) → Numbered checks → given [] ≡ answer checks [] → given values ≡ answer checks values
unfolding given answer all
given_values [] values n e = refl
given_values (c ∷ cs) values n e =
    go c.fails e (given_values cs values (and_right (not (eqb c.number 0)) (all (λ (c : Check). not (eqb c.number 0)) cs) n))
  where
    some : c.number ≡ 0 → ⊥
    some = eqb-false c.number 0 (not-true (eqb c.number 0) (and_left (not (eqb c.number 0)) (all (λ (c : Check). not (eqb c.number 0)) cs) n))

    go : (b : Bool) → given [] ≡ cond b (record { refusal = c.number; values = [] }) (answer cs []) → (given [] ≡ answer cs [] → given values ≡ answer cs values)
        → given values ≡ cond b (record { refusal = c.number; values = [] }) (answer cs values)
    go true e f = absurd (some (sym (ap (λ (a : Answer). a.refusal) e)))
    go false e f = f e

-- accepted: no check failed
pub all_pass : (checks : List Check) → Numbered checks → given [] ≡ answer checks [] → all (λ (c : Check). not c.fails) checks ≡ true
unfolding given answer all
all_pass [] n e = refl
all_pass (c ∷ cs) n e =
    go c.fails e (all_pass cs (and_right (not (eqb c.number 0)) (all (λ (c : Check). not (eqb c.number 0)) cs) n))
  where
    some : c.number ≡ 0 → ⊥
    some = eqb-false c.number 0 (not-true (eqb c.number 0) (and_left (not (eqb c.number 0)) (all (λ (c : Check). not (eqb c.number 0)) cs) n))

    go : (b : Bool) → given [] ≡ cond b (record { refusal = c.number; values = [] }) (answer cs [])
        → (given [] ≡ answer cs [] → all (λ (c : Check). not c.fails) cs ≡ true) → not b && all (λ (c : Check). not c.fails) cs ≡ true
    go true e f = absurd (some (sym (ap (λ (a : Answer). a.refusal) e)))
    go false e f = f e

-- one check more behind a row
pub refused_more : (checks more : List Check) (r : Refusal) (values : List ℕ) → refused r ≡ answer checks [] → refused r ≡ answer (checks ++ more) values
unfolding refused answer
refused_more [] more r values e = absurd (omega (arith, number_some r, ap (λ (a : Answer). a.refusal) e))
refused_more (c ∷ cs) more r values e = go c.fails e (refused_more cs more r values)
  where
    go : (b : Bool) → refused r ≡ cond b (record { refusal = c.number; values = [] }) (answer cs [])
        → (refused r ≡ answer cs [] → refused r ≡ answer (cs ++ more) values) → refused r ≡ cond b (record { refusal = c.number; values = [] }) (answer (cs ++ more) values)
    go true e f = e
    go false e f = f e

pub given_more : (checks more : List Check) (values : List ℕ) → Numbered checks → given [] ≡ answer checks [] → answer more values ≡ answer (checks ++ more) values
unfolding given answer all
given_more [] more values n e = refl
given_more (c ∷ cs) more values n e =
    go c.fails e (given_more cs more values (and_right (not (eqb c.number 0)) (all (λ (c : Check). not (eqb c.number 0)) cs) n))
  where
    some : c.number ≡ 0 → ⊥
    some = eqb-false c.number 0 (not-true (eqb c.number 0) (and_left (not (eqb c.number 0)) (all (λ (c : Check). not (eqb c.number 0)) cs) n))

    go : (b : Bool) → given [] ≡ cond b (record { refusal = c.number; values = [] }) (answer cs []) → (given [] ≡ answer cs [] → answer more values ≡ answer (cs ++ more) values)
        → answer more values ≡ cond b (record { refusal = c.number; values = [] }) (answer (cs ++ more) values)
    go true e f = absurd (some (sym (ap (λ (a : Answer). a.refusal) e)))
    go false e f = f e
