-- `border::corner_row` meets its contract.
use mathlib.Core.Path.{refl}
use Rattle.lists.specs.Lists.{has}
use Rattle.shapes.specs.Shapes.{shapes, shape}
use Rattle.border.specs.Corners.{bits_of, corner_bits, bytes_of, corner_row}
use Rattle.border.proofs.Corners.{row_at, row_none, past}
use Rattle.border.proofs.corner_row.Goals as goal

pub returns-in-1 : goal.returns-in-1
unfolding corner_row bytes_of corner_bits bits_of shape shapes has
returns-in-1 c = row_at 1 _ _ c.in-1.is refl

pub returns-in-2 : goal.returns-in-2
unfolding corner_row bytes_of corner_bits bits_of shape shapes has
returns-in-2 c = row_at 2 _ _ c.in-2.is refl

pub returns-in-3 : goal.returns-in-3
unfolding corner_row bytes_of corner_bits bits_of shape shapes has
returns-in-3 c = row_at 3 _ _ c.in-3.is refl

pub returns-in-4 : goal.returns-in-4
unfolding corner_row bytes_of corner_bits bits_of shape shapes has
returns-in-4 c = row_at 4 _ _ c.in-4.is refl

pub returns-in-5 : goal.returns-in-5
unfolding corner_row bytes_of corner_bits bits_of shape shapes has
returns-in-5 c = row_at 5 _ _ c.in-5.is refl

pub returns-in-6 : goal.returns-in-6
unfolding corner_row bytes_of corner_bits bits_of shape shapes has
returns-in-6 c = row_at 6 _ _ c.in-6.is refl

pub returns-in-7 : goal.returns-in-7
unfolding corner_row bytes_of corner_bits bits_of shape shapes has
returns-in-7 c = row_at 7 _ _ c.in-7.is refl

pub returns-in_default : goal.returns-in_default
returns-in_default c =
    let other = c.in_default.in_default-own.rest in
    row_none _ (λ some. past 7 _ (past 6 _ (past 5 _ (past 4 _ (past 3 _ (past 2 _ (past 1 _ some other.0.0.0.0.0.0.1) other.0.0.0.0.0.1) other.0.0.0.0.1) other.0.0.0.1) other.0.0.1) other.0.1) other.1)
