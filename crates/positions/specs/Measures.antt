-- What is given of a cell, by its type, its marks and their positions.
use Rattle.std.specs.Prelude.{List, [], ◌∷◌, map, ℕ, ◌+◌, ◌*◌, get_or, length, replicate, ℤ, pos, Float, Result, Ok, Err}
use Rattle.std.specs.Float.{binary64}
use Rattle.std.specs.Float.Ieee.{of_int, of_bits, div}
use Rattle.shapes.specs.Sizes.{most_marks}
use Rattle.metres.specs.Whole.{position_of, sum_of, bar_length, tri_area, quad_area, tetra_volume}
use Rattle.metres.specs.Points.{point_of}
use Rattle.metres.specs.declared.Point.{Point}
use Rattle.map.specs.declared.Refusal.TheVariants.{TypeUnknown}
use Rattle.positions.specs.declared.Measured.TheVariants.{SquaredLength, DoubledArea, SixfoldVolume}
use Rattle.positions.specs.declared.Measured.{Measured}
use Rattle.map.specs.declared.Refusal.{Refusal}

-- "For a cell give the position of each corner as a point of three floats"
unfoldable pub points_of : List ℤ → List ℕ → List Point
points_of positions marks = map (λ (v : ℕ). point_of (position_of positions v)) marks

-- the same, float after float
unfoldable pub coordinates : List ℤ → List ℕ → List Float
coordinates positions [] = []
coordinates positions (v ∷ vs) =
    (point_of (position_of positions v)).x ∷ (point_of (position_of positions v)).y ∷ (point_of (position_of positions v)).z ∷ coordinates positions vs

-- as many as a cell may have, none of them given
unfoldable pub origins : List Point
origins = replicate most_marks (record { x = of_bits binary64 0; y = of_bits binary64 0; z = of_bits binary64 0 })

-- a mark's coordinate: 0 for x, 1 for y, 2 for z
unfoldable pub coordinate : List ℤ → ℕ → ℕ → ℤ
coordinate positions k v = get_or positions (3 * v + k) (pos 0)

-- "each coordinate sum held exactly, then divided once by the count of corners"
unfoldable pub mean : List ℤ → List ℕ → ℕ → Float
mean positions marks k =
    div binary64 (of_int binary64 (sum_of (length marks) (λ i. coordinate positions k (get_or marks i 0)))) (of_int binary64 (pos (length marks)))

unfoldable pub centre_of : List ℤ → List ℕ → Point
centre_of positions marks = record { x = mean positions marks 0; y = mean positions marks 1; z = mean positions marks 2 }

-- "Each measure is the float equal to the whole-number formula"; "whose kind follows the cell": by type, on the marks of corners 0 to 3
unfoldable pub measures : List ℤ → ℕ → ℕ → ℕ → ℕ → List (Result Measured Refusal)
measures positions a b c d =
    Err TypeUnknown
    ∷ Ok (SquaredLength (of_int binary64 (bar_length positions a b)))
    ∷ Ok (DoubledArea (of_int binary64 (tri_area positions a b c)))
    ∷ Ok (DoubledArea (of_int binary64 (quad_area positions a b c d)))
    ∷ Ok (SixfoldVolume (of_int binary64 (tetra_volume positions a b c d)))
    ∷ []

unfoldable pub measure_of : List ℤ → ℕ → ℕ → ℕ → ℕ → ℕ → Result Measured Refusal
measure_of positions t a b c d = get_or (measures positions a b c d) t (Err TypeUnknown)
