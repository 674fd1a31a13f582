-- `sibling::run_way` meets its contract.
use Rattle.sibling.proofs.Turned.{run_same, run_opposite, run_neither}
use Rattle.sibling.proofs.run_way.Goals as goal

pub returns-then-alike : goal.returns-then-alike
returns-then-alike c = run_same _ _ c.if-alike.true

pub returns-then-against : goal.returns-then-against
returns-then-against c = run_opposite _ _ c.if-alike.false c.if-against.true

pub returns-else-against : goal.returns-else-against
returns-else-against c = run_neither _ _ c.if-alike.false c.if-against.false
