-- A scan of numbers from below, each step of which tells of every state that memory pictures.
use mathlib.Core.Path.{◌≡◌, refl, sym, ap, ◌∙◌}
use mathlib.Core.Bool.{Bool, true, false}
use mathlib.Core.List.{List}
use Prim.Native.Nat.{ℕ, ◌+◌, ◌<◌, ◌≤◌}
use Rattle.lists.specs.Lists.{every}
use Rattle.lists.proofs.Every.{every_start, every_more, every_stop, every_end}
use Rattle.numbers.specs.declared.Caps.{Caps}
use Rattle.picture.specs.State.{State}
use Rattle.picture.specs.Picture.{Pic}
use Rattle.whole.specs.SecondHalf.{Sees}

module _ (w : List ℕ) (caps : Caps) (ok : State → Type 0) (test : State → ℕ → Bool) where
  -- those below i pass
  abbrev pub SeesTo : ℕ → Type 0
  SeesTo i = (s : State) → Pic w caps s → ok s → every i (test s) ≡ true

  pub sees_start : SeesTo 0
  sees_start s p k = every_start (test s)

  module _ (n i : ℕ) (r : Bool) (less : i < n) (one : Sees w caps (λ s. ok s × (i < n)) (λ s. test s i) r) where
    pub sees_more : SeesTo i → r ≡ true → SeesTo (i + 1)
    sees_more before t s p k = every_more (test s) i (before s p k) (sym (one.sees s p (k, less)) ∙ t)

    pub sees_stop : r ≡ false → Sees w caps ok (λ s. every n (test s)) false
    sees_stop t = record { sees = λ s p k. every_stop (test s) n i less (sym (one.sees s p (k, less)) ∙ t) }

  pub sees_end : (n i : ℕ) → SeesTo i → i ≤ n → n ≤ i → Sees w caps ok (λ s. every n (test s)) true
  sees_end n i before a b = record { sees = λ s p k. every_end (test s) n i (before s p k) a b }
