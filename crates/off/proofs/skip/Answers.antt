-- `off::skip` meets its contract.
use mathlib.Core.Path.{sym, ◌∙◌}
use native.Mathlib.Omega.{arith}
use Rattle.off.proofs.Along.{gap_halt, gap_go, gap_past}
use Rattle.off.proofs.skip.Goals as goal

pub returns-then-not-parts_words : goal.returns-then-not-parts_words
returns-then-not-parts_words c = gap_halt _ c.loop-i.i (omega arith) (sym c.parts_words.ensures ∙ c.if-not-parts_words.true) ∙ sym c.loop-i.invariant

pub loop-i-preserved : goal.loop-i-preserved
loop-i-preserved c = c.loop-i.invariant ∙ gap_go _ c.loop-i.i (omega arith) (sym c.parts_words.ensures ∙ c.if-not-parts_words.false)

pub returns : goal.returns
returns c = gap_past _ _ _ _ (omega arith) c.loop-i.auto.i-end c.max.ensures c.loop-i.invariant
