-- `laid::far_mark` meets its contract.
use mathlib.Core.Path.{sym, ◌∙◌}
use native.Mathlib.Omega.{arith}
use Rattle.record_checks.proofs.Steps.{far_none, far_all}
use Rattle.record_checks.proofs.far_mark.Goals as goal

pub returns-then-marks : goal.returns-then-marks
returns-then-marks c = sym (far_none _ _ (omega arith))

pub returns : goal.returns
returns c = c.word.ensures ∙ sym (far_all _ _ (omega arith))
