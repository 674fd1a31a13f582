-- `ask::first_anchor` meets its contract.
use Rattle.ask.proofs.Calls.{anchor_refused, anchor_none, anchor_found}
use mathlib.Core.Path.{refl}
use Rattle.map.proofs.Handed.{handed}
use Rattle.ask.proofs.first_anchor.Goals as goal

pub returns-in_err-caps : goal.returns-in_err-caps
returns-in_err-caps c = rw (handed _ _ c.from_residual.ensures.1) (anchor_refused _ _ _ _ c.about_star.ensures _ c.in_err-caps.was)

pub returns-then-x-eq0 : goal.returns-then-x-eq0
returns-then-x-eq0 c =
    let opens = c.about_star.ensures.opens _ c.in_ok-caps.was in
    anchor_none _ _ opens.0 _ _ _ opens.1 refl _ c.anchor_of-x.ensures c.if-x-eq0.true

pub returns : goal.returns
returns c =
    let opens = c.about_star.ensures.opens _ c.in_ok-caps.was in
    anchor_found _ _ opens.0 _ _ _ opens.1 refl _ c.anchor_of-x.ensures c.if-x-eq0.false _ refl
