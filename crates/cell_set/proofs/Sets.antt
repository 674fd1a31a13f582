-- What is in a set of cells.
use mathlib.Core.Path.{◌≡◌, refl, sym}
use mathlib.Core.Bool.{Bool, false, ◌||◌}
use mathlib.Core.List.{List}
use Prim.Native.Nat.{ℕ, zero, suc, ◌<◌, ◌≤◌}
use native.Mathlib.Decide.{ℕ_discrete}
use borrow.Author.Tests.{eq-eqb, ne_eqb}
use lib.Dec.{eqb}
use lib.ListN.{length, get_or, set, replicate, get_or-eq_default}
use lib.Seq.{get_or-set_same, get_or-set_other}
use Rattle.cell_set.specs.CellSet.{in_set}

-- past the end there is none
pub past_end : (cells : List ℕ) (c : ℕ) → length cells ≤ c → false ≡ in_set cells c
unfolding in_set
past_end cells c h = rw (get_or-eq_default cells 0 {n = c} h)

pub is_in : (cells : List ℕ) (c : ℕ) (r : Bool) → r ≡ eqb (get_or cells c 0) 1 → r ≡ in_set cells c
unfolding in_set
is_in cells c r e = e

-- a set with one cell more
pub put_in : (cells : List ℕ) (c : ℕ) → c < length cells → (k : ℕ) → in_set (set cells c 1) k ≡ eqb c k || in_set cells k
unfolding in_set
put_in cells c h k = go (ℕ_discrete c k)
  where
    go : Dec (c ≡ k) → eqb (get_or (set cells c 1) k 0) 1 ≡ eqb c k || eqb (get_or cells k 0) 1
    go (yes e) = rw (← e, get_or-set_same cells c 1 0 h, eq-eqb c c refl)
    go (no f) = rw (ne_eqb c k f, get_or-set_other cells c k 1 0 (λ e. f (sym e)))

-- bytes of 0 are the empty set
zeros : (n k : ℕ) → ◌≡◌ {A = ℕ} (get_or (replicate n 0) k 0) 0
zeros zero k = refl
zeros (suc n) zero = refl
zeros (suc n) (suc k) = zeros n k

pub none_in : (n k : ℕ) → in_set (replicate n 0) k ≡ false
unfolding in_set
none_in n k = rw (zeros n k)
