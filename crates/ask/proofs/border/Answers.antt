-- `ask::border` meets its contract.
use Rattle.ask.proofs.Calls.{border_refused, border_given}
use mathlib.Core.Path.{refl}
use Rattle.map.proofs.Handed.{handed}
use Rattle.ask.proofs.border.Goals as goal

pub returns-in_err-caps : goal.returns-in_err-caps
returns-in_err-caps c = rw (handed _ _ c.from_residual.ensures.1) (border_refused _ _ _ _ c.about_half.ensures _ c.in_err-caps.was)

pub returns : goal.returns
returns c =
    let opens = c.about_half.ensures.opens _ c.in_ok-caps.was in
    border_given _ _ opens.0 _ _ _ opens.1 refl _ c.half_of-h.ensures _ c.sibling_of.ensures
