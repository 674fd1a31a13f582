-- `words::put` meets its contract.
use mathlib.Core.Path.{sym}
use lib.Seq.{set_out}
use Rattle.words.proofs.put.Goals as goal

pub returns-then-m-at : goal.returns-then-m-at
returns-then-m-at c = sym (set_out _ _ _ c.if-m-at.true)
