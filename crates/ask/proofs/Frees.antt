-- The free cell, looked for from 0 on.
use mathlib.Core.Path.{◌≡◌, refl, sym, ap, ◌∙◌}
use mathlib.Core.Bool.{Bool, true, false, cond, not}
use mathlib.Core.List.{List, [], ◌∷◌, ◌++◌}
use Prim.Native.Nat.{ℕ, ◌+◌, ◌<◌, ◌≤◌}
use native.Mathlib.Decide.{le_ind}
use native.Mathlib.Numerals.{add-one}
use native.Mathlib.Omega.{arith}
use borrow.Author.Tests.{eq-eqb, ne_eqb}
use lib.Dec.{eqb}
use lib.ListN.{length, take}
use Rattle.lists.specs.Lists.{select}
use Rattle.lists.proofs.Select.{select_same}
use Rattle.numbers.specs.declared.Caps.{Caps}
use Rattle.numbers.specs.declared.Cell.{Cell}
use Rattle.std.specs.Prelude.{Ok, Some, None}
use Rattle.store.specs.Slots.{code_in}
use Rattle.store.specs.Open.{opened}
use Rattle.map.specs.Cells.{Map, live}
use Rattle.map.specs.Answers.{answer}
use Rattle.map.specs.Free.{free_numbers, free_answer}
use Rattle.map.specs.Says.{given, cell_says}
use Rattle.picture.specs.Picture.{Wf}
use Rattle.checks.proofs.Rows.{cells_of_lem, code_of}
use Rattle.ask.specs.Asked.{Asked}
use Rattle.ask.specs.Refusals.{no_cell}
use Rattle.ask.proofs.Asks.{mesh_given}

-- what is selected first stays first
first_stays : (p : ℕ → Bool) (c hi : ℕ) → select p c ≡ [] → p c ≡ true → c < hi → take 1 (select p hi) ≡ c ∷ []
unfolding select
first_stays p c hi none here h =
    le_ind (λ (m : ℕ). take 1 (select p m) ≡ c ∷ []) (rw (here, none)) (λ m l ih. more (p m) (select p m) m ih) hi h
  where
    more : (b : Bool) (l : List ℕ) (m : ℕ) → take 1 l ≡ c ∷ [] → take 1 (cond b (l ++ (m ∷ [])) l) ≡ c ∷ []
    more false l m e = e
    more true (x ∷ xs) m e = e
    more true [] m e = absurd (let z : ◌≡◌ {A = ℕ} 0 1 = ap length e in omega arith)

module _ (w : List ℕ) (caps : Caps) where
  -- no cell below is free
  pub record NoneFree (c : ℕ) : Type 0 where
    pub none : select (λ k. eqb (code_in w caps k) 0) c ≡ []

  pub free_start : NoneFree 0
  unfolding select
  free_start = record { none = refl }

  pub free_more : (c x : ℕ) → NoneFree c → x ≡ code_in w caps c → (x ≡ 0 → ⊥) → NoneFree (c + 1)
  unfolding select
  free_more c x n word some = record { none = rw (add-one c, ne_eqb (code_in w caps c) 0 (λ z. some (word ∙ z))) n.none }

  -- on well-formed memory the codes tell which cells are live
  free_are : (m : Map) → m.caps ≡ caps → Wf w m → select (λ k. eqb (code_in w caps k) 0) caps.cells ≡ free_numbers m
  unfolding free_numbers live
  free_are m e wf =
      rw (cells_of_lem caps m e)
      (select_same (λ k. eqb (code_in w caps k) 0) (λ k. not (not (eqb (m.at k).code 0))) caps.cells
      (λ k h. ap (λ (t : ℕ). eqb t 0) (code_of caps m e w wf k h) ∙ twice (eqb (m.at k).code 0)))
    where
      twice : (b : Bool) → b ≡ not (not b)
      twice true = refl
      twice false = refl

  module _ (opens : Ok caps ≡ opened w) (c : ℕ) (n : NoneFree c) where
    pub free_found : (x : ℕ) → c < caps.cells → x ≡ code_in w caps c → x ≡ 0 → (k : Cell) → k.0 ≡ c → Asked cell_says no_cell w free_answer (Ok (Some k))
    unfolding free_answer answer cell_says given
    free_found x h word z k q =
        mesh_given cell_says no_cell w free_answer caps opens (Ok (Some k))
        (λ m e wf.
        let least : take 1 (free_numbers m) ≡ c ∷ [] =
        ap (take 1) (sym (free_are m e wf))
        ∙ first_stays (λ k. eqb (code_in w caps k) 0) c caps.cells n.none (eq-eqb (code_in w caps c) 0 (sym word ∙ z)) h in
        rw (least, q))

    pub free_none : c ≤ caps.cells → caps.cells ≤ c → Asked cell_says no_cell w free_answer (Ok None)
    unfolding free_answer answer cell_says given
    free_none a b =
        mesh_given cell_says no_cell w free_answer caps opens (Ok None)
        (λ m e wf.
        let through : c ≡ caps.cells = omega arith in
        let all : free_numbers m ≡ [] = sym (free_are m e wf) ∙ (ap (select (λ k. eqb (code_in w caps k) 0)) (sym through) ∙ n.none) in
        rw all)
