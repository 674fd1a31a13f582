-- `sibling::end_place` meets its contract.
use borrow.Author.Tests.{not-true, not-false}
use Rattle.sibling.proofs.Turned.{end_fore, end_back, end_past}
use Rattle.sibling.proofs.end_place.Goals as goal

pub returns-then-not-back : goal.returns-then-not-back
returns-then-not-back c = end_fore _ _ _ (not-true _ c.if-not-back.true-raw)

pub returns-then-k-size : goal.returns-then-k-size
returns-then-k-size c = end_back _ _ _ (not-false _ c.if-not-back.false-raw)

pub returns-else-k-size : goal.returns-else-k-size
returns-else-k-size c = end_past _ _ _ (not-false _ c.if-not-back.false-raw) c.if-k-size.false
