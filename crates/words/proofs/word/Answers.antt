-- `words::word` meets its contract.
use mathlib.Core.Path.{sym}
use lib.ListN.{get_or-eq_default}
use Rattle.words.proofs.word.Goals as goal

pub returns-else-at-m : goal.returns-else-at-m
returns-else-at-m c = sym (get_or-eq_default c.args.m.now 0 c.if-at-m.false)
