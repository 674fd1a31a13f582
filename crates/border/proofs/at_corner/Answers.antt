-- `border::at_corner` meets its contract.
use Prim.Native.Nat.{◌%◌}
use native.Mathlib.Omega.{arith}
use Rattle.shapes.specs.Sizes.{most_marks}
use Rattle.border.proofs.Corners.{corner_byte}
use Rattle.border.proofs.at_corner.Goals as goal

pub returns : goal.returns
returns c = rw c.corner_row-row.ensures (corner_byte c.args.t (c.args.k % most_marks) (omega arith))
