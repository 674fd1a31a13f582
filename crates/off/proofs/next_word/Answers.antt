-- `off::next_word` meets its contract.
use Rattle.off.proofs.Along.{next_none, next_some}
use Rattle.off.proofs.next_word.Goals as goal

pub returns-then-text-first : goal.returns-then-text-first
returns-then-text-first c = next_none _ _ _ c.skip-first.ensures c.if-text-first.true

pub returns : goal.returns
returns c = next_some _ _ _ c.skip-first.ensures c.if-text-first.false _ c.past.ensures
