-- `ask::type_of` meets its contract.
use Rattle.ask.proofs.Calls.{type_refused, type_given}
use mathlib.Core.Path.{refl}
use Rattle.map.proofs.Handed.{handed}
use Rattle.ask.proofs.type_of.Goals as goal

pub returns-in_err-caps : goal.returns-in_err-caps
returns-in_err-caps c = rw (handed _ _ c.from_residual.ensures.1) (type_refused _ _ _ c.about_cell.ensures _ c.in_err-caps.was)

pub returns : goal.returns
returns c =
    let opens = c.about_cell.ensures.opens _ c.in_ok-caps.was in
    type_given _ _ opens.0 _ _ opens.1 refl _ c.code_of.ensures
