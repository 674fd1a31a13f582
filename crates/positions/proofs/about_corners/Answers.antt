-- `positions::about_corners` meets its contract.
use Rattle.positions.proofs.Rows.{corners_refused, corners_short, corners_open}
use mathlib.Core.Path.{sym, ◌∙◌}
use Rattle.map.proofs.Handed.{handed}
use Rattle.positions.proofs.about_corners.Goals as goal

pub returns-in_err-caps : goal.returns-in_err-caps
returns-in_err-caps c = rw (handed _ _ c.from_residual.ensures.1) (corners_refused _ _ _ _ c.about_cell.ensures _ c.in_err-caps.was)

pub returns-then-too_few : goal.returns-then-too_few
returns-then-too_few c =
    let opens = c.about_cell.ensures.opens _ c.in_ok-caps.was in
    corners_short _ _ _ _ opens.0 opens.1 (sym c.too_few.ensures ∙ c.if-too_few.true)

pub returns : goal.returns
returns c =
    let opens = c.about_cell.ensures.opens _ c.in_ok-caps.was in
    corners_open _ _ _ _ opens.0 opens.1 (sym c.too_few.ensures ∙ c.if-too_few.false)
