-- Whether a fold is allowed, test by test.
use mathlib.Core.Path.{◌≡◌, refl, sym, ◌∙◌}
use mathlib.Core.Bool.{Bool, true, false, ◌||◌}
use Prim.Native.Nat.{ℕ, suc, ◌+◌, ◌<◌, ◌≤◌}
use native.Mathlib.Decide.{dec_lt}
use native.Mathlib.Omega.{arith}
use borrow.Author.Tests.{lt-ltb, le-ltb, ne_eqb}
use lib.Dec.{eqb, ltb}
use Rattle.journal_store.specs.Days.{kept_days, before_fold, not_allowed}

-- whether a fold is not allowed
module _ (ever fold last day : ℕ) where
  pub not_ever : ever ≡ 0 → true ≡ not_allowed ever fold last day
  unfolding not_allowed
  not_ever z = rw z

  module _ (some : ever ≡ 0 → ⊥) where
    pub not_late : (folded : Bool) → folded ≡ before_fold fold day → folded ≡ true → true ≡ not_allowed ever fold last day
    unfolding not_allowed
    not_late folded ef h = rw (ne_eqb ever 0 some, sym ef ∙ h)

    pub not_year : (folded : Bool) → folded ≡ before_fold fold day → folded ≡ false → (l : ℕ) → l ≡ last
        → ltb l (day + kept_days) ≡ not_allowed ever fold last day
    unfolding not_allowed
    not_year folded ef h l e = rw (ne_eqb ever 0 some, sym ef ∙ h, e)

-- whether a day is before that of the last fold, by what the fold's word tells
pub folded_none : (n day : ℕ) → n ≡ 0 → false ≡ before_fold n day
unfolding before_fold
folded_none n day z = rw (le-ltb (day + 1) n (omega arith))

pub folded_some : (n day fold : ℕ) → n ≡ suc fold → ltb day fold ≡ before_fold n day
unfolding before_fold
folded_some n day fold e = go (dec_lt day fold)
  where
    go : Dec (day < fold) → ltb day fold ≡ ltb (day + 1) n
    go (yes h) = rw (lt-ltb day fold h, lt-ltb (day + 1) n (omega arith))
    go (no f) = rw (le-ltb day fold (omega arith), le-ltb (day + 1) n (omega arith))
