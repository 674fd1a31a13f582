-- Words cleared one by one.
use mathlib.Core.Path.{◌≡◌, refl, ◌∙◌}
use mathlib.Core.List.{List}
use mathlib.Core.Logic.{⊎_elim}
use Prim.Native.Nat.{ℕ, ◌+◌, ◌<◌, ◌≤◌}
use native.Mathlib.Decide.{dec_lt}
use native.Mathlib.Nat.{eq-or-lt_of_le}
use native.Mathlib.Omega.{arith}
use lib.ListN.{length, get_or, set, length-set, get_or-eq_default}
use Rattle.words.proofs.Frame.{read_same, read_above, read_below}
use Rattle.format.specs.Cleared.{Cleared}

module _ (w : List ℕ) where
  -- none so far
  pub clear_start : (i : ℕ) → i ≡ 0 → Cleared i w w
  clear_start i e = record { size = refl; zero = λ k h. absurd (omega arith); same = λ k h. refl }

  -- a word is 0 when 0 was stored there, past the end too
  put_zero : (i : ℕ) → get_or (set w i 0) i 0 ≡ 0
  put_zero i = go (dec_lt i (length w))
    where
      go : Dec (i < length w) → get_or (set w i 0) i 0 ≡ 0
      go (yes h) = read_same w i 0 h
      go (no f) = get_or-eq_default (set w i 0) 0 {n = i} (omega (arith, length-set w i 0))

-- one word more
module _ (w w' w'' : List ℕ) (i p v : ℕ) where
  pub clear_more : Cleared i w w' → w'' ≡ set w' p v → p ≡ i → v ≡ 0 → Cleared (i + 1) w w''
  clear_more f e ep ev = rw (e, ep, ev) (record {
    size = length-set w' i 0 ∙ f.size;
    zero = λ k h. ⊎_elim (last k) (λ l. read_below w' i 0 k l ∙ f.zero k l) (eq-or-lt_of_le {n = k} {m = i} (omega arith));
    same = λ k h. read_above w' i 0 k (omega arith) ∙ f.same k (omega arith);
  })
    where
      last : (k : ℕ) → k ≡ i → get_or (set w' i 0) k 0 ≡ 0
      last k z = rw z (put_zero w' i)

-- all of them
pub clear_end : (w w' : List ℕ) (i n : ℕ) → Cleared i w w' → i ≤ n → n ≤ i → Cleared n w w'
clear_end w w' i n f a b = let same : i ≡ n = omega arith in rw same at f
