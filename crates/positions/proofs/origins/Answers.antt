-- `positions::origins` meets its contract.
use mathlib.Core.Path.{refl}
use Rattle.positions.specs.Measures.{origins}
use Rattle.positions.proofs.origins.Goals as goal

pub returns : goal.returns
unfolding origins
returns c = refl
