-- The live cells beside the wanted ones: each stands once, and no other is live.
use mathlib.Core.Path.{◌≡◌, refl, sym, ap, ◌∙◌, fun_ext}
use mathlib.Core.Bool.{Bool, true, false, not, ◌&&◌, ◌||◌}
use mathlib.Core.List.{List}
use Prim.Native.Nat.{ℕ, zero, suc, ◌<◌, ◌≤◌}
use native.Mathlib.Omega.{arith}
use borrow.Author.Tests.{eq-eqb, ne_eqb}
use lib.Dec.{eqb}
use lib.ListN.{length, replicate, length-replicate}
use Rattle.lists.specs.Lists.{has, all, every, repeats}
use Rattle.lists.proofs.Bools.{clash, and_left}
use Rattle.numbers.specs.declared.Caps.{Caps}
use Rattle.numbers.specs.Sizes.{most_capacity}
use Rattle.store.specs.Slots.{code_in}
use Rattle.map.specs.Cells.{Live, Map, live}
use Rattle.map.specs.Afresh.{numbers}
use Rattle.picture.specs.Picture.{Wf}
use Rattle.checks.proofs.Rows.{cells_of_lem, code_of}
use Rattle.cell_set.specs.CellSet.{in_set}
use Rattle.cell_set.proofs.Sets.{none_in}
use Rattle.wanted.specs.Wanted.{wanted_of, stands, as_wanted}
use Rattle.wanted.specs.Records.{stands_in}
use Rattle.wanted.proofs.Standing.{stands_in_lem}
use Rattle.plan_check.specs.Steps.{stand_once, Sifted, dead_or, AsWanted}

-- a cell under whose number none is live, and one that is live
module _ (w : List ℕ) (caps : Caps) (seen : List ℕ) (c code : ℕ) (ec : code ≡ code_in w caps c) where
  pub dead_yes : code ≡ 0 → true ≡ dead_or w caps seen c
  unfolding dead_or
  dead_yes z = let q : code_in w caps c ≡ 0 = sym ec ∙ z in rw q

  pub live_in : (code ≡ 0 → ⊥) → (r : Bool) → r ≡ in_set seen c → r ≡ dead_or w caps seen c
  unfolding dead_or
  live_in f r e = e ∙ rw (ne_eqb (code_in w caps c) 0 (λ z. f (ec ∙ z)))

-- numbers that pass one test below a bound pass an equal one
every_same : (n : ℕ) (p q : ℕ → Bool) → ((k : ℕ) → k < n → p k ≡ q k) → every n p ≡ every n q
unfolding every
every_same zero p q f = refl
every_same (suc n) p q f = rw (every_same n p q (λ k h. f k (omega arith)), f n (omega arith))

twice_not : (b : Bool) → b ≡ not (not b)
twice_not true = refl
twice_not false = refl

-- three tests, of which the first two are made at once
first_no : (a b c : Bool) → a && b ≡ false → a && (b && c) ≡ false
first_no true b c e = rw e
first_no false b c e = refl

first_yes : (a b c : Bool) → a && b ≡ true → a && (b && c) ≡ c
first_yes true true c e = refl
first_yes true false c e = absurd (clash e refl)
first_yes false b c e = absurd (clash e refl)

module _ (w : List ℕ) (caps : Caps) (records : List ℕ) where
  -- on well-formed memory
  module _ (m : Map) (e : m.caps ≡ caps) (wf : Wf w m) where
    cells : List Live
    cells = (wanted_of records).cells

    once_is : stand_once w caps cells ≡ all (stands m) cells && not (repeats (numbers cells))
    unfolding stand_once
    once_is = ap (λ (p : Live → Bool). all p cells && not (repeats (numbers cells))) (fun_ext (stands_in_lem w caps m e wf))

    -- bytes enough for every cell
    room_is : caps.cells ≤ most_capacity
    room_is = omega (arith, wf.picture.cells, cells_of_lem caps m e)

    else_is : (seen : List ℕ) → ((k : ℕ) → in_set seen k ≡ has k (numbers cells))
        → every caps.cells (dead_or w caps seen) ≡ every m.caps.cells (λ c. not (live m c) || has c (numbers cells))
    unfolding dead_or live
    else_is seen f =
        every_same caps.cells _ (λ c. not (live m c) || has c (numbers cells)) (λ k h.
        rw (code_of caps m e w wf k h, f k, ← (twice_not (eqb (m.at k).code 0))))
        ∙ ap (λ (n : ℕ). every n (λ c. not (live m c) || has c (numbers cells))) (sym (cells_of_lem caps m e))

  module _ (zeros seen : List ℕ) (n : ℕ) (start : zeros ≡ replicate n 0) (many : most_capacity ≤ n) (r : Bool) (sift : Sifted w caps records zeros r seen) where
    long : length zeros ≡ n
    long = ap length start ∙ length-replicate n 0

    empty : (k : ℕ) → in_set zeros k ≡ false
    empty k = ap (λ (l : List ℕ). in_set l k) start ∙ none_in n k

    -- one does not stand, or is wanted twice
    pub compared_not : r ≡ false → AsWanted w caps records false
    unfolding as_wanted cells
    compared_not z = record {
      says = λ ok m e wf.
          let x = sift.once ok (omega (arith, room_is m e wf, long)) empty in
          sym (first_no (all (stands m) (wanted_of records).cells) (not (repeats (numbers (wanted_of records).cells))) _
          (sym (once_is m e wf) ∙ (sym x.0 ∙ z)));
    }

    -- each stands once, and so it is by the others
    pub compared : r ≡ true → (q : Bool) → q ≡ every caps.cells (dead_or w caps seen) → AsWanted w caps records q
    unfolding as_wanted cells
    compared z q eq = record {
      says = λ ok m e wf.
          let x = sift.once ok (omega (arith, room_is m e wf, long)) empty in
          eq ∙ (else_is m e wf seen (x.1 z)
          ∙ sym (first_yes (all (stands m) (wanted_of records).cells) (not (repeats (numbers (wanted_of records).cells))) _
          (sym (once_is m e wf) ∙ (sym x.0 ∙ z))));
    }
