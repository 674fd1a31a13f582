-- `frames::character` meets its contract.
use mathlib.Core.Path.{refl}
use Rattle.frames.specs.Frames.{digits}
use Rattle.frames.proofs.character.Goals as goal

pub returns : goal.returns
unfolding digits
returns c = refl
