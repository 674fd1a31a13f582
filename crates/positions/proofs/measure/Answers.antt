-- `positions::measure` meets its contract.
use Rattle.positions.proofs.Replies.{measured_refused, measured_given}
use Rattle.map.proofs.Handed.{handed}
use Rattle.positions.proofs.measure.Goals as goal

pub returns-in_err-caps : goal.returns-in_err-caps
returns-in_err-caps c = rw (handed _ _ c.from_residual.ensures.1) (measured_refused _ _ _ _ c.about_measure.ensures _ c.in_err-caps.was)

pub returns : goal.returns
returns c =
    let opens = c.about_measure.ensures.opens _ c.in_ok-caps.was in
    measured_given _ _ _ _ opens.0 opens.1 _ _ _ _ _ c.code_of.ensures c.corner_of-p.ensures c.corner_of-q.ensures c.corner_of-r.ensures c.corner_of-s.ensures
    _ c.measure_of.ensures
