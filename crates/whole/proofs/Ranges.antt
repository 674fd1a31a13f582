-- `all` and `any` over the numbers below n.
use mathlib.Core.Path.{◌≡◌, sym}
use mathlib.Core.Bool.{Bool, true, false}
use mathlib.Core.List.{List}
use Prim.Native.Nat.{ℕ, zero, suc, ◌<◌, ◌≤◌}
use native.Mathlib.Numerals.{add-one}
use native.Mathlib.Omega.{arith}
use denote.Param.Members.{Mut}
use lib.ListN.{get_or, length}
use Rattle.std.proofs.iter.Yields.{nat_range_steps}
use Rattle.std.proofs.lemmas.Iterator.{YieldsList-from_range, cases_from_all, cases_from_any}
use Rattle.std.proofs.lemmas.List.FromFn.{length-range_with_len, get_or-range_with_len}
use Rattle.std.specs.Bool.{MatchBool}
use Rattle.std.specs.Fn.{Called}
use Rattle.std.specs.Iterator.{YieldsThen}
use Rattle.std.specs.List.{range_with_len, FoldsTo, AllWithin, HoldsAt}
use Rattle.std.specs.Option.{MatchOption}
use Rattle.std.specs.declared.option.Option.{Option}
use Rattle.std.specs.declared.ops.Range.{Range}
use Rattle.lists.specs.Lists.{any, every, list_of}
use Rattle.lists.proofs.Every.{at_every, every_stop}
use Rattle.lists.proofs.Through.{none_start, none_more, one_there}
use Rattle.numbers.specs.declared.Caps.{Caps}
use Rattle.picture.specs.State.{State}
use Rattle.whole.specs.SecondHalf.{Sees}

module _ (n : ℕ) where
  at_range : (k : ℕ) → k < n → get_or (range_with_len 0 n) k 0 ≡ k
  at_range k less = omega (arith, get_or-range_with_len 0 n k 0 less)

  each : (P : ℕ → Type 0) → AllWithin P (range_with_len 0 n) 0 (length (range_with_len 0 n)) → (k : ℕ) → k < n → P k
  each P all k less = rw (at_range k less) at (all k 0 (omega arith) (omega (arith, length-range_with_len 0 n)))

  one : (P : ℕ → Type 0) → (k : ℕ) × (k < length (range_with_len 0 n)) × HoldsAt P (range_with_len 0 n) k → (k : ℕ) × (k < n) × P k
  one P h = let less : h.0 < n = omega (arith, h.1, length-range_with_len 0 n) in (h.0, less, rw (at_range h.0 less) at (h.2 0))

  module _ {F : Type 0} {g : Mut F (ℕ × Unit {0}) Bool} {s : Range ℕ} (u : Range ℕ) (f : F) (r : Bool) (is : s ≡ record { start = 0; end = n }) where
    -- each passes, or one does not
    pub all_below : (P : ℕ → Bool → Type 0)
        → (xs : List ℕ) × (o : Option ℕ) × (j : F) × YieldsThen nat_range_steps s xs o u × FoldsTo (λ p x q. Called g p (x, tt) true q) f xs j
        × MatchOption o (r ≡ true) (λ x. (r ≡ false) × ((h : F) × Called g j (x, tt) false h))
        → ((x : ℕ) (q : F) → Called g f (x, tt) true q → (q ≡ f) × P x true)
        → ((x : ℕ) (q : F) → Called g f (x, tt) false q → P x false)
        → MatchBool r ((k : ℕ) → k < n → P k true) ((k : ℕ) × (k < n) × P k false)
    all_below P ran passed failed =
        split r (cases_from_all u f r (λ x. P x true) (λ x. P x false) ran (YieldsList-from_range 0 n n is (omega arith)) passed failed)
      where
        split : (b : Bool)
            → MatchBool b (AllWithin (λ x. P x true) (range_with_len 0 n) 0 (length (range_with_len 0 n)))
            ((k : ℕ) × (k < length (range_with_len 0 n)) × HoldsAt (λ x. P x false) (range_with_len 0 n) k)
            → MatchBool b ((k : ℕ) → k < n → P k true) ((k : ℕ) × (k < n) × P k false)
        split true h = each (λ x. P x true) h
        split false h = one (λ x. P x false) h

    -- one passes, or none does
    pub any_below : (P : ℕ → Bool → Type 0)
        → (xs : List ℕ) × (o : Option ℕ) × (j : F) × YieldsThen nat_range_steps s xs o u × FoldsTo (λ p x q. Called g p (x, tt) false q) f xs j
        × MatchOption o (r ≡ false) (λ x. (r ≡ true) × ((h : F) × Called g j (x, tt) true h))
        → ((x : ℕ) (q : F) → Called g f (x, tt) true q → P x true)
        → ((x : ℕ) (q : F) → Called g f (x, tt) false q → (q ≡ f) × P x false)
        → MatchBool r ((k : ℕ) × (k < n) × P k true) ((k : ℕ) → k < n → P k false)
    any_below P ran passed failed =
        split r (cases_from_any u f r (λ x. P x true) (λ x. P x false) ran (YieldsList-from_range 0 n n is (omega arith)) passed failed)
      where
        split : (b : Bool)
            → MatchBool b ((k : ℕ) × (k < length (range_with_len 0 n)) × HoldsAt (λ x. P x true) (range_with_len 0 n) k)
            (AllWithin (λ x. P x false) (range_with_len 0 n) 0 (length (range_with_len 0 n)))
            → MatchBool b ((k : ℕ) × (k < n) × P k true) ((k : ℕ) → k < n → P k false)
        split true h = one (λ x. P x true) h
        split false h = each (λ x. P x false) h

    -- what `any` says of a list
    pub any_listed : (p : ℕ → Bool) (at : ℕ → ℕ)
        → (xs : List ℕ) × (o : Option ℕ) × (j : F) × YieldsThen nat_range_steps s xs o u × FoldsTo (λ p x q. Called g p (x, tt) false q) f xs j
        × MatchOption o (r ≡ false) (λ x. (r ≡ true) × ((h : F) × Called g j (x, tt) true h))
        → ((x : ℕ) (q : F) → Called g f (x, tt) true q → p (at x) ≡ true)
        → ((x : ℕ) (q : F) → Called g f (x, tt) false q → (q ≡ f) × (p (at x) ≡ false))
        → r ≡ any p (list_of n at)
    any_listed p at ran passed failed = split r (any_below (λ x b. p (at x) ≡ b) ran passed failed)
      where
        none : (i : ℕ) → i ≤ n → ((k : ℕ) → k < n → p (at k) ≡ false) → any p (list_of i at) ≡ false
        none zero less h = none_start p at
        none (suc i) less h = rw (← add-one i) (none_more p at i (none i (omega arith) h) (h i (omega arith)))

        split : (b : Bool) → MatchBool b ((k : ℕ) × (k < n) × (p (at k) ≡ true)) ((k : ℕ) → k < n → p (at k) ≡ false) → b ≡ any p (list_of n at)
        split true h = sym (one_there p at n h.0 h.1 h.2)
        split false h = sym (none n (omega arith) h)

    -- what `all` says of every state that memory pictures
    pub sees_below : (w : List ℕ) (caps : Caps) (ok : State → Type 0) (test : State → ℕ → Bool)
        → (xs : List ℕ) × (o : Option ℕ) × (j : F) × YieldsThen nat_range_steps s xs o u × FoldsTo (λ p x q. Called g p (x, tt) true q) f xs j
        × MatchOption o (r ≡ true) (λ x. (r ≡ false) × ((h : F) × Called g j (x, tt) false h))
        → ((x : ℕ) (q : F) → Called g f (x, tt) true q → (q ≡ f) × Sees w caps (λ s. ok s × (x < n)) (λ s. test s x) true)
        → ((x : ℕ) (q : F) → Called g f (x, tt) false q → Sees w caps (λ s. ok s × (x < n)) (λ s. test s x) false)
        → Sees w caps ok (λ s. every n (test s)) r
    sees_below w caps ok test ran passed failed =
        split r (all_below (λ x b. Sees w caps (λ s. ok s × (x < n)) (λ s. test s x) b) ran passed failed)
      where
        split : (b : Bool)
            → MatchBool b ((k : ℕ) → k < n → Sees w caps (λ s. ok s × (k < n)) (λ s. test s k) true)
            ((k : ℕ) × (k < n) × Sees w caps (λ s. ok s × (k < n)) (λ s. test s k) false)
            → Sees w caps ok (λ s. every n (test s)) b
        split true h = record { sees = λ s p k. sym (at_every (test s) n (λ i less. sym ((h i less).sees s p (k, less)))) }
        split false h = record { sees = λ s p k. every_stop (test s) n h.0 h.1 (sym (h.2.sees s p (k, h.1))) }
