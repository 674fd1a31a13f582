-- The first edition, or another one.
use mathlib.Core.Path.{◌≡◌}
use mathlib.Core.Bool.{true}
use Prim.Native.Nat.{ℕ}
use borrow.Author.Tests.{eq-eqb, ne_eqb}
use lib.Dec.{eqb}
use Rattle.numbers.specs.Editions.{first_edition, second_edition, is_edition}

pub is_first : (edition : ℕ) → edition ≡ first_edition → true ≡ is_edition edition
unfolding is_edition
is_first edition e = rw (eq-eqb edition 1 e)

pub is_other : (edition : ℕ) → (edition ≡ first_edition → ⊥) → eqb edition second_edition ≡ is_edition edition
unfolding is_edition
is_other edition n = rw (ne_eqb edition 1 n)
