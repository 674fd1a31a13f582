-- `whole::twins` meets its contract.
use borrow.Author.Rules.{rules}
use mathlib.Core.Path.{refl}
use Rattle.whole.proofs.Ranges.{any_listed}
use Rattle.whole.proofs.twins.Goals as goal

pub returns : goal.returns
returns c = any_listed _ _ _ _ refl _ _ c.«any».ensures.ran (λ x q k. search rules) (λ x q k. search rules)
