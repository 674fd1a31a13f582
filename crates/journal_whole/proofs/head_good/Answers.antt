-- `journal_whole::head_good` meets its contract.
use Rattle.std.proofs.Common.{arith}
use Rattle.journal_whole.specs.Checks.{head_good}
use Rattle.journal_whole.proofs.head_good.Goals as goal

pub returns-then-not-was_entered : goal.returns-then-not-was_entered
unfolding head_good
returns-then-not-was_entered c = grind arith

pub returns-else-not-was_entered : goal.returns-else-not-was_entered
unfolding head_good
returns-else-not-was_entered c = grind arith

pub returns-then-last-le-MOST_DAY : goal.returns-then-last-le-MOST_DAY
unfolding head_good
returns-then-last-le-MOST_DAY c = grind arith

pub returns-else-last-le-MOST_DAY : goal.returns-else-last-le-MOST_DAY
unfolding head_good
returns-else-last-le-MOST_DAY c = grind arith
