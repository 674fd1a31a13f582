-- `numbers::half_of` meets its contract.
use mathlib.Core.Path.{refl}
use Rattle.numbers.specs.Half.{half_of}
use Rattle.numbers.proofs.half_of.Goals as goal

pub returns : goal.returns
unfolding half_of
returns c = refl
