-- `star::star_of` meets its contract.
use mathlib.Core.Path.{refl}
use Rattle.star.proofs.Along.{star_gives}
use Rattle.star.proofs.star_of.Goals as goal

pub returns : goal.returns
returns c =
    star_gives _ _ _ _ _ _ _ _ _ _ c.gather-n.ensures refl c.keep_dimension.ensures
