-- A build goes on, record by record.
use mathlib.Core.Path.{◌≡◌, refl}
use mathlib.Core.List.{List, [], ◌∷◌}
use Prim.Native.Nat.{ℕ, zero, suc, ◌+◌, ◌-◌, ◌<◌, ◌≤◌}
use native.Mathlib.Numerals.{add-one}
use native.Mathlib.Omega.{arith}
use borrow.Author.Tests.{ne_eqb}
use lib.ListN.{length, take, drop}
use Rattle.shapes.specs.Shapes.{shape}
use Rattle.map.specs.Cells.{licensed_body, Map}
use Rattle.map.specs.History.{empty, Insert, edit_answer, changed, build_from}
use Rattle.map.specs.Says.{number_of}
use Rattle.map.specs.declared.Refusal.{Refusal}
use Rattle.map.proofs.Refusals.{number_some}

module _ (place : ℕ) (m : Map) where
  -- no word left
  pub turn_end : (n : ℕ) → build_from n place m [] ≡ record { refusal = 0; place = 0; map = m }
  unfolding build_from
  turn_end zero = refl
  turn_end (suc n) = refl

  -- no number, no type or no licence
  pub turn_short : (n : ℕ) → 1 ≤ n → (words : List ℕ) → 1 ≤ length words → length words < 3
      → build_from n place m words ≡ record { refusal = 7; place = place; map = empty m.caps }
  unfolding build_from
  turn_short zero h words some l = absurd (omega arith)
  turn_short (suc n) h [] some l = absurd (omega arith)
  turn_short (suc n) h (c ∷ []) some l = refl
  turn_short (suc n) h (c ∷ t ∷ []) some l = refl
  turn_short (suc n) h (c ∷ t ∷ licence ∷ rest) some l = absurd (omega arith)

  -- a record that is accepted, and one that is refused
  module _ (c t licence : ℕ) (rest : List ℕ) where
    pub turn_made : (n : ℕ) → 1 ≤ n → (edit_answer m (Insert c (licensed_body t licence (take (shape t).marks rest)))).refusal ≡ 0
        → build_from n place m (c ∷ t ∷ licence ∷ rest)
        ≡ build_from (n - 1) (place + 1) (changed m (Insert c (licensed_body t licence (take (shape t).marks rest)))) (drop (shape t).marks rest)
    unfolding build_from
    turn_made zero h e = absurd (omega arith)
    turn_made (suc n) h e =
        let less : suc n - 1 ≡ n = omega arith in
        rw (less, add-one place, e, build_from)

    pub turn_refused : (n : ℕ) → 1 ≤ n → (why : Refusal) → number_of why ≡ (edit_answer m (Insert c (licensed_body t licence (take (shape t).marks rest)))).refusal
        → build_from n place m (c ∷ t ∷ licence ∷ rest) ≡ record { refusal = number_of why; place = place; map = empty m.caps }
    unfolding build_from
    turn_refused zero h why e = absurd (omega arith)
    turn_refused (suc n) h why e = rw (← e, build_from, ne_eqb (number_of why) 0 (λ z. omega (arith, number_some why))) (rw (← e))
