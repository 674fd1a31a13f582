-- The ways and their numbers.
use mathlib.Core.Path.{◌≡◌, refl}
use Prim.Native.Nat.{ℕ, zero, suc, ◌<◌}
use native.Mathlib.Omega.{arith}
use Rattle.map.specs.declared.Way.{Way}
use Rattle.map.specs.declared.Way.TheVariants.{Lone, Same, Opposite, Neither}
use Rattle.map.specs.Ways.{way_number, way_at}

-- a number is that of one way alone
pub way_back : (x : Way) → way_at (way_number x) ≡ x
unfolding way_number way_at
way_back Lone = refl
way_back Same = refl
way_back Opposite = refl
way_back Neither = refl

-- there are four
pub way_few : (x : Way) → way_number x < 4
unfolding way_number
way_few Lone = omega arith
way_few Same = omega arith
way_few Opposite = omega arith
way_few Neither = omega arith

pub number_few : (n : ℕ) (x : Way) → n ≡ way_number x → n < 4
number_few n x e = omega (arith, e, way_few x)

-- and each number below four is that of a way
pub number_way : (n : ℕ) → n < 4 → way_number (way_at n) ≡ n
unfolding way_number way_at
number_way zero h = refl
number_way (suc zero) h = refl
number_way (suc (suc zero)) h = refl
number_way (suc (suc (suc zero))) h = refl
number_way (suc (suc (suc (suc n)))) h = absurd (omega arith)
