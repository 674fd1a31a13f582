-- `off::past` meets its contract.
use mathlib.Core.Path.{sym, ◌∙◌}
use native.Mathlib.Omega.{arith}
use Rattle.off.proofs.Along.{run_halt, run_go, run_past}
use Rattle.off.proofs.past.Goals as goal

pub returns-then-parts_words : goal.returns-then-parts_words
returns-then-parts_words c = run_halt _ c.loop-i.i (omega arith) (sym c.parts_words.ensures ∙ c.if-parts_words.true) ∙ sym c.loop-i.invariant

pub loop-i-preserved : goal.loop-i-preserved
loop-i-preserved c = c.loop-i.invariant ∙ run_go _ c.loop-i.i (omega arith) (sym c.parts_words.ensures ∙ c.if-parts_words.false)

pub returns : goal.returns
returns c = run_past _ _ _ _ (omega arith) c.loop-i.auto.i-end c.max.ensures c.loop-i.invariant
