-- A half-facet's number and its two parts.
use mathlib.Core.Path.{◌≡◌}
use Prim.Native.Nat.{ℕ, ◌*◌, ◌/◌, ◌%◌, ◌<◌}
use native.Mathlib.Omega.{arith}
use Rattle.numbers.specs.Half.{half_of, cut}
use Rattle.numbers.specs.Sizes.{past_cells}

pub half_cell : (c f : ℕ) → f < 8 → half_of c f / 8 ≡ c
unfolding half_of
half_cell c f h = omega arith

pub half_facet : (c f : ℕ) → f < 8 → half_of c f % 8 ≡ f
unfolding half_of
half_facet c f h = omega arith

pub half_whole : (h : ℕ) → half_of (h / 8) (h % 8) ≡ h
unfolding half_of
half_whole h = omega arith

-- the half-facets of the cells below a capacity lie below 8 times it
pub half_below : (c f size : ℕ) → f < 8 → c < size → half_of c f < 8 * size
unfolding half_of
half_below c f size h k = omega arith

pub below_half : (h size : ℕ) → h < 8 * size → h / 8 < size
below_half h size k = omega arith

-- for cells and facets of the outline nothing is cut off
pub half_uncut : (c f : ℕ) → c < past_cells → f < 8 → half_of (cut c) (f % 8) ≡ half_of c f
unfolding half_of
half_uncut c f h k = omega arith
