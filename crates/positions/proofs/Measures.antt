-- The measure of each type, and of a number that is no type with a measure.
use mathlib.Core.Path.{◌≡◌, refl, ap}
use mathlib.Core.List.{List}
use Prim.Native.Nat.{ℕ, zero, suc, ◌+◌, ◌*◌}
use lib.ListN.{get_or}
use lib.IntN.{ℤ, pos}
use lib.Ieee.{Float, binary64, of_int}
use Rattle.metres.specs.Whole.{edge, squared, crossed, sixfold, bar_length, tri_area, quad_area, tetra_volume}
use Rattle.map.specs.declared.Refusal.TheVariants.{TypeUnknown}
use Rattle.positions.specs.declared.Measured.TheVariants.{SquaredLength, DoubledArea, SixfoldVolume}
use Rattle.std.specs.Prelude.{Ok, Err}
use Rattle.positions.specs.Measures.{coordinate, measures, measure_of}

module _ (positions : List ℤ) (a b c d t : ℕ) (x : Float) where
  pub of_bar : t ≡ 1 → x ≡ of_int binary64 (squared (edge positions a b)) → Ok (SquaredLength x) ≡ measure_of positions t a b c d
  unfolding measure_of measures bar_length
  of_bar e h = rw e (ap (λ (x : Float). Ok (SquaredLength x)) h)

  pub of_tri : t ≡ 2 → x ≡ of_int binary64 (crossed (edge positions a b) (edge positions a c)) → Ok (DoubledArea x) ≡ measure_of positions t a b c d
  unfolding measure_of measures tri_area
  of_tri e h = rw e (ap (λ (x : Float). Ok (DoubledArea x)) h)

  pub of_quad : t ≡ 3 → x ≡ of_int binary64 (crossed (edge positions a c) (edge positions b d)) → Ok (DoubledArea x) ≡ measure_of positions t a b c d
  unfolding measure_of measures quad_area
  of_quad e h = rw e (ap (λ (x : Float). Ok (DoubledArea x)) h)

  pub of_tetra : t ≡ 4 → x ≡ of_int binary64 (sixfold (edge positions a b) (edge positions a c) (edge positions a d)) → Ok (SixfoldVolume x) ≡ measure_of positions t a b c d
  unfolding measure_of measures tetra_volume
  of_tetra e h = rw e (ap (λ (x : Float). Ok (SixfoldVolume x)) h)

pub of_none : (positions : List ℤ) (a b c d t : ℕ) → (t ≡ 1 → ⊥) → (t ≡ 2 → ⊥) → (t ≡ 3 → ⊥) → (t ≡ 4 → ⊥) → Err TypeUnknown ≡ measure_of positions t a b c d
unfolding measure_of measures
of_none positions a b c d zero e f g h = refl
of_none positions a b c d (suc zero) e f g h = absurd (e refl)
of_none positions a b c d (suc (suc zero)) e f g h = absurd (f refl)
of_none positions a b c d (suc (suc (suc zero))) e f g h = absurd (g refl)
of_none positions a b c d (suc (suc (suc (suc zero)))) e f g h = absurd (h refl)
of_none positions a b c d (suc (suc (suc (suc (suc t))))) e f g h = refl

-- a coordinate of the mark at a corner, as it is read
pub read_there : (positions : List ℤ) (k u v : ℕ) (x : ℤ) → v ≡ u → x ≡ get_or positions (3 * v + k) (pos 0) → x ≡ coordinate positions k u
unfolding coordinate
read_there positions k u v x e h = rw (← e) h
