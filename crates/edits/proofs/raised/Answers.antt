-- `edits::raised` meets its contract.
use native.Mathlib.Omega.{arith}
use Rattle.edits.proofs.Counting.{counted_below, counted_most}
use Rattle.edits.proofs.raised.Goals as goal

pub returns-then-more-room : goal.returns-then-more-room
returns-then-more-room c = counted_below _ _ (omega arith)

pub returns-else-more-room : goal.returns-else-more-room
returns-else-more-room c = counted_most _ _ (omega arith)
