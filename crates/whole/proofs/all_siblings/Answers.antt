-- `whole::all_siblings` meets its contract.
use borrow.Author.Rules.{rules}
use mathlib.Core.Path.{refl}
use Rattle.whole.proofs.Ranges.{sees_below}
use Rattle.whole.proofs.all_siblings.Goals as goal

pub returns : goal.returns
returns c = sees_below _ _ _ _ refl _ _ _ _ c.all.ensures.ran (λ x q k. search rules) (λ x q k. search rules)
