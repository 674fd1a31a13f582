-- `facet::known` meets its contract.
use mathlib.Core.Path.{◌∙◌}
use borrow.Author.Tests.{eq-eqb}
use Rattle.facet.proofs.Held.{known_none, known_mark}
use Rattle.facet.proofs.known.Goals as goal

pub returns-then-x-eq0 : goal.returns-then-x-eq0
returns-then-x-eq0 c = eq-eqb c.args.x 0 c.if-x-eq0.true ∙ known_none _ _ c.if-x-eq0.true

pub returns-else-x-eq0 : goal.returns-else-x-eq0
returns-else-x-eq0 c = known_mark _ _ c.if-x-eq0.false _ c.has.ensures
