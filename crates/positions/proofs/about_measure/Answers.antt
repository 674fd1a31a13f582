-- `positions::about_measure` meets its contract.
use Rattle.positions.proofs.Rows.{measure_refused, measure_none, measure_short, measure_open}
use mathlib.Core.Path.{sym, ◌∙◌}
use Rattle.map.proofs.Handed.{handed}
use Rattle.positions.proofs.about_measure.Goals as goal

pub returns-in_err-caps : goal.returns-in_err-caps
returns-in_err-caps c = rw (handed _ _ c.from_residual.ensures.1) (measure_refused _ _ _ _ c.about_cell.ensures _ c.in_err-caps.was)

pub returns-then-code_of-gt-MOST_MEASURED : goal.returns-then-code_of-gt-MOST_MEASURED
returns-then-code_of-gt-MOST_MEASURED c =
    let opens = c.about_cell.ensures.opens _ c.in_ok-caps.was in
    measure_none _ _ _ _ opens.0 opens.1 _ c.code_of.ensures c.if-code_of-gt-MOST_MEASURED.true

pub returns-then-too_few : goal.returns-then-too_few
returns-then-too_few c =
    let opens = c.about_cell.ensures.opens _ c.in_ok-caps.was in
    measure_short _ _ _ _ opens.0 opens.1 _ c.code_of.ensures c.if-code_of-gt-MOST_MEASURED.false (sym c.too_few.ensures ∙ c.if-too_few.true)

pub returns : goal.returns
returns c =
    let opens = c.about_cell.ensures.opens _ c.in_ok-caps.was in
    measure_open _ _ _ _ opens.0 opens.1 _ c.code_of.ensures c.if-code_of-gt-MOST_MEASURED.false (sym c.too_few.ensures ∙ c.if-too_few.false)
