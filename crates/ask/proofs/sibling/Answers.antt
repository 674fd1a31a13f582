-- `ask::sibling` meets its contract.
use Rattle.ask.proofs.Calls.{sibling_refused, sibling_given}
use mathlib.Core.Path.{refl}
use Rattle.map.proofs.Handed.{handed}
use Rattle.ask.proofs.sibling.Goals as goal

pub returns-in_err-caps : goal.returns-in_err-caps
returns-in_err-caps c = rw (handed _ _ c.from_residual.ensures.1) (sibling_refused _ _ _ _ c.about_half.ensures _ c.in_err-caps.was)

pub returns : goal.returns
returns c =
    let opens = c.about_half.ensures.opens _ c.in_ok-caps.was in
    sibling_given _ _ opens.0 _ _ _ opens.1 refl _ c.half_of-half.ensures _ c.sibling_of.ensures _ c.way_of.ensures
