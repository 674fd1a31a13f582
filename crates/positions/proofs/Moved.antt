-- Moving all marks by one vector changes no measure.
use mathlib.Core.Path.{◌≡◌}
use mathlib.Core.List.{List, [], ◌∷◌}
use Prim.Native.Nat.{ℕ, ◌<◌}
use lib.ListN.{get_or}
use lib.IntN.{ℤ}
use lib.Ieee.{binary64, of_int}
use Rattle.metres.specs.Whole.{Metres, position_of, moved, edge, squared, crossed, sixfold, bar_length, tri_area, quad_area, tetra_volume}
use Rattle.metres.proofs.Turns.{edge_moved}
use Rattle.map.specs.declared.Refusal.TheVariants.{TypeUnknown}
use Rattle.positions.specs.declared.Measured.TheVariants.{SquaredLength, DoubledArea, SixfoldVolume}
use Rattle.std.specs.Prelude.{Ok, Err}
use Rattle.positions.specs.Measures.{measures, measure_of}

pub measure_moved : (t : Metres) (p q : List ℤ) (n : ℕ) → ((v : ℕ) → v < n → position_of q v ≡ moved t (position_of p v))
    → (k a b c d : ℕ) → a < n → b < n → c < n → d < n → measure_of q k a b c d ≡ measure_of p k a b c d
unfolding measure_of measures bar_length tri_area quad_area tetra_volume
measure_moved t p q n m k a b c d ha hb hc hd = λ i.
    get_or
    (Err TypeUnknown
    ∷ Ok (SquaredLength (of_int binary64 (squared (between a b ha hb i))))
    ∷ Ok (DoubledArea (of_int binary64 (crossed (between a b ha hb i) (between a c ha hc i))))
    ∷ Ok (DoubledArea (of_int binary64 (crossed (between a c ha hc i) (between b d hb hd i))))
    ∷ Ok (SixfoldVolume (of_int binary64 (sixfold (between a b ha hb i) (between a c ha hc i) (between a d ha hd i))))
    ∷ [])
    k (Err TypeUnknown)
  where
    between : (u v : ℕ) → u < n → v < n → edge q u v ≡ edge p u v
    between u v hu hv = edge_moved t p q u v (m u hu) (m v hv)
