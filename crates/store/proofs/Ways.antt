-- The word of a half-facet: its sibling and the way that it runs.
use mathlib.Core.Path.{◌≡◌, sym, ap, ◌∙◌}
use Prim.Native.Nat.{ℕ, ◌+◌, ◌*◌, ◌/◌, ◌%◌, ◌<◌}
use native.Mathlib.Omega.{arith}
use Rattle.map.specs.declared.Way.{Way}
use Rattle.map.specs.Ways.{way_number, way_at}
use Rattle.map.proofs.Ways.{way_back, way_few, number_way}
use Rattle.store.specs.Layout.{past_halves}
use Rattle.store.specs.Slots.{packed}

-- the way by the remainder, as the code tells it
pub way_is : (k r word : ℕ) → r ≡ word → r % 4 ≡ k → way_at k ≡ way_at (word % 4)
way_is k r word e q = ap way_at (sym q ∙ ap (λ (n : ℕ). n % 4) e)

pub way_last : (r word : ℕ) → r ≡ word → (r % 4 ≡ 0 → ⊥) → (r % 4 ≡ 1 → ⊥) → (r % 4 ≡ 2 → ⊥) → way_at 3 ≡ way_at (word % 4)
way_last r word e a b c = way_is 3 r word e (omega (arith, a, b, c))

-- a sibling and its way, packed, are read back
pub packed_sibling : (x : ℕ) (way : Way) → (4 * x + way_number way) / 4 ≡ x
packed_sibling x way = omega (arith, way_few way)

pub packed_way : (x : ℕ) (way : Way) → way_at ((4 * x + way_number way) % 4) ≡ way
packed_way x way = let rest : (4 * x + way_number way) % 4 ≡ way_number way = omega (arith, way_few way) in rw rest (way_back way)

-- and a word is what it is read as
pub word_packed : (word : ℕ) → 4 * (word / 4) + way_number (way_at (word % 4)) ≡ word
word_packed word = let rest : way_number (way_at (word % 4)) ≡ word % 4 = number_way (word % 4) (omega arith) in rw rest (omega arith)

-- of a half-facet nothing is cut off
pub packed_whole : (x : ℕ) (way : Way) → x < past_halves → packed x way ≡ 4 * x + way_number way
packed_whole x way h = omega arith
