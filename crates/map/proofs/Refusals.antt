-- The refusals and their numbers, one row each: a new refusal is a row of the enum, of `number_of`, of `number_of` and of these two.
use mathlib.Core.Path.{◌≡◌, refl}
use mathlib.Core.List.{List, [], ◌∷◌}
use Prim.Native.Nat.{ℕ, suc, ◌%◌, ◌<◌, ◌≤◌}
use native.Mathlib.Omega.{arith}
use lib.ListN.{get_or}
use Rattle.map.specs.declared.Refusal.{Refusal}
use Rattle.map.specs.declared.Refusal.TheVariants.{CapacityAbove, MemoryShort, CellOutside, CellLive, CellNotLive, TypeUnknown, CountWrong, MarkOutside, MarkTwice, CellSame, MarkFull, OutputShort, FacetOutside, NotMesh, BadFrame, PositionsShort, FaceFull, DayBefore, DayFolded, FoldNotAllowed, JournalFull}
use Rattle.map.specs.Says.{number_of}

-- in the order of their numbers, from 1 on; at 17 and 18, which none has, stands the 15
pub refusals : List Refusal
refusals =
    CapacityAbove
    ∷ MemoryShort
    ∷ CellOutside
    ∷ CellLive
    ∷ CellNotLive
    ∷ TypeUnknown
    ∷ CountWrong
    ∷ MarkOutside
    ∷ MarkTwice
    ∷ CellSame
    ∷ MarkFull
    ∷ OutputShort
    ∷ FacetOutside
    ∷ NotMesh
    ∷ BadFrame
    ∷ PositionsShort
    ∷ BadFrame
    ∷ BadFrame
    ∷ FaceFull
    ∷ DayBefore
    ∷ DayFolded
    ∷ FoldNotAllowed
    ∷ JournalFull
    ∷ []

-- each stands at its number
record Row (r : Refusal) : Type 0 where
  place : ℕ
  here : get_or refusals place BadFrame ≡ r
  number : number_of r ≡ suc place
  byte : place < 255

row : (r : Refusal) → Row r
unfolding refusals
row CapacityAbove = record { place = 0; here = refl; number = refl; byte = omega arith }
row MemoryShort = record { place = 1; here = refl; number = refl; byte = omega arith }
row CellOutside = record { place = 2; here = refl; number = refl; byte = omega arith }
row CellLive = record { place = 3; here = refl; number = refl; byte = omega arith }
row CellNotLive = record { place = 4; here = refl; number = refl; byte = omega arith }
row TypeUnknown = record { place = 5; here = refl; number = refl; byte = omega arith }
row CountWrong = record { place = 6; here = refl; number = refl; byte = omega arith }
row MarkOutside = record { place = 7; here = refl; number = refl; byte = omega arith }
row MarkTwice = record { place = 8; here = refl; number = refl; byte = omega arith }
row CellSame = record { place = 9; here = refl; number = refl; byte = omega arith }
row MarkFull = record { place = 10; here = refl; number = refl; byte = omega arith }
row OutputShort = record { place = 11; here = refl; number = refl; byte = omega arith }
row FacetOutside = record { place = 12; here = refl; number = refl; byte = omega arith }
row NotMesh = record { place = 13; here = refl; number = refl; byte = omega arith }
row BadFrame = record { place = 14; here = refl; number = refl; byte = omega arith }
row PositionsShort = record { place = 15; here = refl; number = refl; byte = omega arith }
row FaceFull = record { place = 18; here = refl; number = refl; byte = omega arith }
row DayBefore = record { place = 19; here = refl; number = refl; byte = omega arith }
row DayFolded = record { place = 20; here = refl; number = refl; byte = omega arith }
row FoldNotAllowed = record { place = 21; here = refl; number = refl; byte = omega arith }
row JournalFull = record { place = 22; here = refl; number = refl; byte = omega arith }

-- the refusal of a number
pub number_back : (r : Refusal) → (k : ℕ) × (number_of r ≡ suc k) × (get_or refusals k BadFrame ≡ r)
number_back r = ((row r).place, (row r).number, (row r).here)

-- none has the number 0, which means accepted
pub number_some : (r : Refusal) → 1 ≤ number_of r
number_some r = omega (arith, (row r).number)

-- each fits a byte
pub number_byte : (r : Refusal) → number_of r % 256 ≡ number_of r
number_byte r = omega (arith, (row r).number, (row r).byte)
