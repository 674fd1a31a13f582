-- `lists::same_set` meets its contract.
use mathlib.Core.Path.{sym, ◌∙◌}
use Rattle.lists.specs.Lists.{same_set}
use Rattle.lists.proofs.same_set.Goals as goal

pub returns-then-subset : goal.returns-then-subset
unfolding same_set
returns-then-subset c = rw (sym c.subset.ensures ∙ c.if-subset.true) c.subset-then-subset.ensures

pub returns-else-subset : goal.returns-else-subset
unfolding same_set
returns-else-subset c = rw (sym c.subset.ensures ∙ c.if-subset.false) c.if-subset.false
