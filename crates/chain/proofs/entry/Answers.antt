-- `chain::entry` meets its contract.
use Rattle.chain.proofs.Inner.{inner_none, inner_first}
use Rattle.chain.proofs.entry.Goals as goal

pub returns-then-caps-v : goal.returns-then-caps-v
returns-then-caps-v c = inner_none _ _

pub returns : goal.returns
returns c = inner_first _ _ _ _ c.if-caps-v.false c.first_of.ensures
