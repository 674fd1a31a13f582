-- `sibling::same_pair` meets its contract.
use mathlib.Core.Path.{◌∙◌}
use borrow.Author.Tests.{ne_eqb}
use Rattle.sibling.proofs.Turned.{pair_other, pair_first}
use Rattle.sibling.proofs.same_pair.Goals as goal

pub returns-then-a-c : goal.returns-then-a-c
returns-then-a-c c = pair_first _ _ _ _ c.if-a-c.true

pub returns-else-a-c : goal.returns-else-a-c
returns-else-a-c c = ne_eqb c.args.a c.args.c c.if-a-c.false ∙ pair_other _ _ _ _ c.if-a-c.false
