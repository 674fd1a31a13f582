-- The digits of a number, appended from the first to the last.
use mathlib.Core.Path.{◌≡◌, refl}
use mathlib.Core.List.{List, [], ◌∷◌}
use Prim.Native.Nat.{ℕ, zero, suc, ◌+◌, ◌-◌, ◌/◌, ◌%◌, ◌<◌, ◌≤◌}
use native.Mathlib.Omega.{arith}
use borrow.Author.Tests.{lt-ltb, le-ltb}
use Rattle.frames.specs.Forms.{Appended}
use Rattle.frames.proofs.Append.{append_more, append_same}
use Rattle.off.specs.Writing.{digits_to}

module _ {o o' : List ℕ} {at p : ℕ} where
  -- the last that there is room for
  pub digits_last : (more k b : ℕ) → more ≡ 0 → b ≡ 48 + k % 10 → Appended (b ∷ []) o at p o' → Appended (digits_to more k) o at p o'
  unfolding digits_to
  digits_last more k b e f a = append_same (rw (e, f)) a

  -- the only one
  pub digits_few : (more k b : ℕ) → (more ≡ 0 → ⊥) → k < 10 → b ≡ 48 + k → Appended (b ∷ []) o at p o' → Appended (digits_to more k) o at p o'
  unfolding digits_to
  digits_few zero k b f h e a = absurd (f refl)
  digits_few (suc n) k b f h e a = append_same (rw (lt-ltb k 10 h, e)) a

  -- those before, and the last
  pub digits_more : {o'' : List ℕ} {q : ℕ} (more k b : ℕ) → (more ≡ 0 → ⊥) → 10 ≤ k → b ≡ 48 + k % 10 → Appended (digits_to (more - 1) (k / 10)) o at p o' → Appended (b ∷ []) o' p q o''
      → Appended (digits_to more k) o at q o''
  unfolding digits_to
  digits_more zero k b f h e a s = absurd (f refl)
  digits_more (suc n) k b f h e a s =
      let same : suc n - 1 ≡ n = omega arith in
      append_same (rw (le-ltb k 10 h, e, same)) (append_more (digits_to (suc n - 1) (k / 10)) (b ∷ []) a s)
