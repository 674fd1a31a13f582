-- `frames::digit` meets its contract.

-- the digits lie side by side in two rows, from '0' and from 'a' on
use mathlib.Core.Path.{◌≡◌, refl}
use Prim.Native.Nat.{ℕ, ◌+◌, ◌-◌, ◌<◌, ◌≤◌}
use native.Mathlib.Omega.{arith}
use borrow.Author.Tests.{eqb-true}
use lib.Dec.{eqb}
use lib.ListN.{get_or}
use Rattle.lists.proofs.Below.{all_below, below_at}
use Rattle.frames.specs.Frames.{digits, digit_of}
use Rattle.frames.proofs.Digits.{is_digit, no_digit}
use Rattle.frames.proofs.digit.Goals as goal

decimal : (k : ℕ) → k < 10 → get_or digits k 0 ≡ 48 + k
unfolding all_below digits
decimal k h = eqb-true _ _ (below_at 10 (λ k. eqb (get_or digits k 0) (48 + k)) refl k h)

letter : (k : ℕ) → k < 6 → get_or digits (10 + k) 0 ≡ 97 + k
unfolding all_below digits
letter k h = eqb-true _ _ (below_at 6 (λ k. eqb (get_or digits (10 + k) 0) (97 + k)) refl k h)

-- a byte in one of them is that digit
in-decimals : (b k : ℕ) → k ≡ b - 48 → 48 ≤ b → b ≤ 57 → k ≡ digit_of b
in-decimals b k e low high = is_digit k b (omega arith) (omega (arith, decimal k (omega arith)))

in_letters : (b k : ℕ) → k ≡ 10 + (b - 97) → 97 ≤ b → b ≤ 102 → k ≡ digit_of b
in_letters b k e low high = is_digit k b (omega arith) (rw e (omega (arith, letter (b - 97) (omega arith))))

-- and a byte in neither is none
in-neither : (b : ℕ) → (48 ≤ b → b ≤ 57 → ⊥) → (97 ≤ b → b ≤ 102 → ⊥) → 16 ≡ digit_of b
in-neither b f g =
    no_digit b (λ e. f (omega arith) (omega arith)) (λ e. f (omega arith) (omega arith)) (λ e. f (omega arith) (omega arith)) (λ e. f (omega arith) (omega arith)) (λ e. f (omega arith) (omega arith))
    (λ e. f (omega arith) (omega arith)) (λ e. f (omega arith) (omega arith)) (λ e. f (omega arith) (omega arith)) (λ e. f (omega arith) (omega arith)) (λ e. f (omega arith) (omega arith))
    (λ e. g (omega arith) (omega arith)) (λ e. g (omega arith) (omega arith)) (λ e. g (omega arith) (omega arith)) (λ e. g (omega arith) (omega arith)) (λ e. g (omega arith) (omega arith)) (λ e. g (omega arith) (omega arith))

pub returns-then-b-lt48 : goal.returns-then-b-lt48
returns-then-b-lt48 c = in-neither _ (λ low high. omega arith) (λ low high. omega arith)

pub returns-then-b-le57 : goal.returns-then-b-le57
returns-then-b-le57 c = in-decimals _ _ (omega arith) (omega arith) (omega arith)

pub returns-then-b-lt97 : goal.returns-then-b-lt97
returns-then-b-lt97 c = in-neither _ (λ low high. omega arith) (λ low high. omega arith)

pub returns-then-b-le102 : goal.returns-then-b-le102
returns-then-b-le102 c = in_letters _ _ (omega arith) (omega arith) (omega arith)

pub returns : goal.returns
returns c = in-neither _ (λ low high. omega arith) (λ low high. omega arith)
