-- The places that are kept, label by label.
use mathlib.Core.Path.{◌≡◌, refl, sym, ap, ◌∙◌}
use mathlib.Core.Bool.{Bool, true, false, cond, ◌&&◌}
use mathlib.Core.List.{List}
use Prim.Native.Nat.{ℕ, zero, suc, ◌+◌, ◌-◌, ◌/◌, ◌%◌, ◌<◌}
use native.Mathlib.Decide.{dec_lt, ℕ_discrete}
use native.Mathlib.Omega.{arith}
use lib.Dec.{eqb, ltb}
use lib.ListN.{length, get_or, set, replicate, length-set, get_or-eq_default}
use lib.Seq.{get_or-set_same, get_or-set_other}
use Rattle.lists.specs.Lists.{has, select, first}
use Rattle.numbers.specs.declared.Caps.{Caps}
use Rattle.facet.specs.Facet.{facet_in}
use Rattle.border.specs.Borders.{wanted_in}
use Rattle.group.specs.Places.{chosen_in, seek_in, place_in, Remembered, Recalled}

module _ (w : List ℕ) (caps : Caps) (rows : List (List (List ℕ))) (v : ℕ) (cells lab : List ℕ) (end : ℕ) where
  -- what is sought for a label
  abbrev seek_of : Bool → ℕ → ℕ
  seek_of only label =
      first end
      (select (λ x.
      eqb (get_or lab (x / 8) 0) label
      && (wanted_in w caps (get_or cells (x / 8) 0) (x % 8) only && has v (facet_in w caps rows (get_or cells (x / 8) 0) (x % 8)))) end)

  -- places with one label have one place of the anchor
  pub place_alike : (i j : ℕ) → get_or lab i 0 ≡ get_or lab j 0 → place_in w caps rows v cells lab end i ≡ place_in w caps rows v cells lab end j
  unfolding place_in seek_in chosen_in
  place_alike i j e = ap (λ (t : ℕ). cond (ltb (seek_of true t) end) (seek_of true t) (seek_of false t)) e

-- a word of zeros, past the end too
zeros : (n k : ℕ) → ◌≡◌ {A = ℕ} (get_or (replicate n 0) k 0) 0
zeros zero k = refl
zeros (suc n) zero = refl
zeros (suc n) (suc k) = zeros n k

-- at first nothing is known
pub kept_none : (place : ℕ → ℕ) (lab : List ℕ) (n : ℕ) → Remembered place lab (replicate n 0)
kept_none place lab n = record { known = λ i h. absurd (omega (arith, zeros n (get_or lab i 0))) }

module _ (place : ℕ → ℕ) (lab : List ℕ) (i : ℕ) (kept : List ℕ) where
  -- it is known
  pub recall_known : (label x : ℕ) → label ≡ get_or lab i 0 → x ≡ get_or kept label 0 → 0 < x → Recalled place lab i kept (x - 1) kept
  recall_known label x e q h = record {
    right = λ f. omega (arith, f.known i (rw (← e, ← q) h), here);
    still = λ f. f;
  }
    where
      here : x ≡ get_or kept (get_or lab i 0) 0
      here = q ∙ ap (λ (t : ℕ). get_or kept t 0) e

  -- it is sought, and nothing is kept
  pub recall_none : (x : ℕ) → x ≡ place i → Recalled place lab i kept x kept
  recall_none x e = record { right = λ _. e; still = λ f. f }

  -- it is sought and kept
  pub recall_new : ((j : ℕ) → get_or lab i 0 ≡ get_or lab j 0 → place i ≡ place j) → (label x : ℕ) (kept' : List ℕ) → label ≡ get_or lab i 0 → x ≡ place i
      → kept' ≡ set kept label (x + 1) → Recalled place lab i kept x kept'
  recall_new alike label x kept' e here q = record {
    right = λ _. here;
    still = λ f. record { known = λ j h. go f j h (ℕ_discrete (get_or lab j 0) label) (dec_lt label (length kept)) };
  }
    where
      go : Remembered place lab kept → (j : ℕ) → 0 < get_or kept' (get_or lab j 0) 0 → Dec (get_or lab j 0 ≡ label) → Dec (label < length kept)
          → get_or kept' (get_or lab j 0) 0 ≡ place j + 1
      go f j h (yes s) (yes l) =
          rw (s, q) (get_or-set_same kept label (x + 1) 0 l ∙ ap (λ (y : ℕ). y + 1) (here ∙ alike j (sym e ∙ sym s)))
      go f j h (yes s) (no g) =
          let out : get_or (set kept label (x + 1)) label 0 ≡ 0 = get_or-eq_default (set kept label (x + 1)) 0 (omega (arith, length-set kept label (x + 1))) in
          absurd (omega (arith, rw (s, q) at h, out))
      go f j h (no g) d =
          let other : get_or kept' (get_or lab j 0) 0 ≡ get_or kept (get_or lab j 0) 0 = rw q (get_or-set_other kept label (get_or lab j 0) (x + 1) 0 g) in
          other ∙ f.known j (rw other at h)
