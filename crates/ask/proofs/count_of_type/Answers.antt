-- `ask::count_of_type` meets its contract.
use Rattle.ask.proofs.Calls.{count_refused, count_given}
use mathlib.Core.Path.{refl}
use Rattle.map.proofs.Handed.{handed}
use Rattle.ask.proofs.count_of_type.Goals as goal

pub returns-in_err-caps : goal.returns-in_err-caps
returns-in_err-caps c = rw (handed _ _ c.from_residual.ensures.1) (count_refused _ _ _ c.about_type.ensures _ c.in_err-caps.was)

pub returns : goal.returns
returns c =
    let opens = c.about_type.ensures.opens _ c.in_ok-caps.was in
    count_given _ _ opens.0 _ _ opens.1 refl _ c.count_of.ensures
