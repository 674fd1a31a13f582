-- `off::read_number` meets its contract.
use mathlib.Core.Path.{sym, ◌∙◌}
use native.Mathlib.Omega.{arith}
use Rattle.off.proofs.Values.{along_start, along_small, along_on, along_few, along_break, along_end, number_empty, number_long}
use Rattle.off.proofs.read_number.Goals as goal
use Rattle.off.proofs.read_number.Goals.{then-word-eq0-via-then-word-eq0, then-word-eq0-via-else-word-eq0+then-word-gt6}

pub returns-then-word-eq0 : goal.returns-then-word-eq0
returns-then-word-eq0 c =
    elim c.then-word-eq0.branch [
      | then-word-eq0-via-then-word-eq0 w ↦ number_empty _ w.if-word-eq0.true
      | then-word-eq0-via-else-word-eq0+then-word-gt6 w ↦ number_long _ w.if-word-gt6.true
    ]

pub loop-b-init : goal.loop-b-init
loop-b-init c = along_start _

pub overflow_mul-n : goal.overflow_mul-n
overflow_mul-n c =
    omega (arith, along_small _ _ _ c.loop-b.invariant (omega arith) (omega arith))

pub returns-in_err-n : goal.returns-in_err-n
returns-in_err-n c = rw c.from_residual.ensures (along_break _ _ _ c.loop-b.invariant (omega arith) (sym c.in_err-n.was ∙ c.digit.ensures))

pub overflow_add-n : goal.overflow_add-n
overflow_add-n c =
    omega (arith, along_small _ _ _ c.loop-b.invariant (omega arith) (omega arith), along_few _ _ _ c.loop-b.invariant _ (sym c.in_ok-n.was ∙ c.digit.ensures))

pub loop-b-preserved : goal.loop-b-preserved
loop-b-preserved c =
    along_on _ _ _ c.loop-b.invariant _ (omega arith) (sym c.in_ok-n.was ∙ c.digit.ensures)

pub returns : goal.returns
returns c = along_end _ _ _ c.loop-b.invariant (omega arith) (omega arith) (omega arith)
