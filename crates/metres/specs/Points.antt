-- "the position of each corner as a point of three floats": the floats of its whole metres.
use Rattle.std.specs.Float.{binary64}
use Rattle.std.specs.Float.Ieee.{of_int}
use Rattle.std.specs.Int.{w16}
use Rattle.std.proofs.Common.{SFits}
use Rattle.metres.specs.Whole.{Metres}
use Rattle.metres.specs.declared.Point.{Point}

unfoldable pub point_of : Metres → Point
point_of p = record { x = of_int binary64 p.x; y = of_int binary64 p.y; z = of_int binary64 p.z }

-- "each a signed 16-bit number"
pub record Sixteen (p : Metres) : Type 0 where
  pub x : SFits w16 p.x
  pub y : SFits w16 p.y
  pub z : SFits w16 p.z
