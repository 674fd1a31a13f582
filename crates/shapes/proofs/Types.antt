-- What holds of the types of the table: their codes, and that each has a mark.
use mathlib.Core.Path.{◌≡◌, refl}
use mathlib.Core.Bool.{Bool, true, ◌||◌}
use mathlib.Core.Logic.{⊎_elim}
use Prim.Native.Nat.{ℕ, ◌<◌, ◌≤◌}
use native.Mathlib.Omega.{arith}
use borrow.Author.Tests.{eqb-true, ltb-true}
use lib.Dec.{eqb, ltb}
use lib.ListN.{get_or}
use Rattle.lists.specs.Lists.{all}
use Rattle.lists.proofs.Bools.{or_cases}
use Rattle.lists.proofs.Members.{all_get}
use native.Mathlib.Decide.{ℕ_discrete, dec_lt}
use Rattle.shapes.specs.Shapes.{Shape, no_shape, shapes, shape}
use Rattle.shapes.specs.Sizes.{most_code}
use Rattle.shapes.proofs.Read.{no_code}

-- a code with a dimension is one of the table
pub type_code : (t : ℕ) → 0 < (shape t).dimension → (1 ≤ t) × (t ≤ most_code)
unfolding shape shapes no_shape
type_code t l = go (ℕ_discrete t 0) (dec_lt most_code t)
  where
    go : Dec (t ≡ 0) → Dec (most_code < t) → (1 ≤ t) × (t ≤ most_code)
    go (yes z) d = absurd (omega (arith, rw z at l))
    go (no f) (yes h) = absurd (omega (arith, rw (no_code t (omega arith)) at l))
    go (no f) (no g) = (omega arith, omega arith)

some_marks : Shape → Bool
some_marks s = eqb s.dimension 0 || ltb 0 s.marks

some_tested : all some_marks shapes ≡ true
unfolding some_marks all shapes no_shape
some_tested = refl

no_marks_tested : some_marks no_shape ≡ true
unfolding some_marks no_shape
no_marks_tested = refl

-- a type of the table has a mark
pub type_marks : (t : ℕ) → 0 < (shape t).dimension → 0 < (shape t).marks
unfolding shape some_marks
type_marks t h =
    ⊎_elim (λ (z : eqb (get_or shapes t no_shape).dimension 0 ≡ true). absurd (omega (arith, eqb-true (get_or shapes t no_shape).dimension 0 z)))
    (λ (l : ltb 0 (get_or shapes t no_shape).marks ≡ true). ltb-true 0 (get_or shapes t no_shape).marks l)
    (or_cases (eqb (get_or shapes t no_shape).dimension 0) (ltb 0 (get_or shapes t no_shape).marks) (all_get some_marks shapes no_shape t some_tested no_marks_tested))
