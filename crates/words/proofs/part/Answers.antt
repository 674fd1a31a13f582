-- `words::part` meets its contract.
use mathlib.Core.Path.{refl}
use native.Mathlib.Omega.{arith}
use Rattle.words.proofs.Fits.{part_empty, part_whole}
use Rattle.words.proofs.part.Goals as goal

pub returns-then-m-n : goal.returns-then-m-n
returns-then-m-n c = part_empty _ _ _ _ refl refl (omega arith)

pub returns-then-m-n-2 : goal.returns-then-m-n-2
returns-then-m-n-2 c = part_empty _ _ _ _ refl refl (omega arith)

pub returns : goal.returns
returns c = part_whole _ _ _ _ refl refl (omega arith)
