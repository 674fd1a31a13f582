-- `border::star_bits` meets its contract.
use Rattle.border.proofs.Corners.{star_bits_not, star_bits_here}
use Rattle.border.proofs.star_bits.Goals as goal

pub returns-then-dimension-d : goal.returns-then-dimension-d
returns-then-dimension-d c = star_bits_not _ _ _ _ _ _ _ c.code_of-t.ensures c.dimension.ensures c.if-dimension-d.true

pub returns : goal.returns
returns c =
    star_bits_here _ _ _ _ _ _ _ c.code_of-t.ensures c.dimension.ensures _ c.if-dimension-d.false c.at_corner.ensures
