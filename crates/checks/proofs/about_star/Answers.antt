-- `checks::about_star` meets its contract.
use mathlib.Core.Path.{sym, ◌∙◌}
use Rattle.map.proofs.Handed.{handed}
use Rattle.store.proofs.Shut.{shut}
use Rattle.checks.proofs.Begins.{opens_none, opens_refused}
use Rattle.checks.proofs.about_star.Goals as goal

pub returns-in_err-caps : goal.returns-in_err-caps
returns-in_err-caps c =
    let p = shut _ _ _ _ c.from_residual.ensures.1 c.in_err-caps.was c.«open».ensures in
    rw p.0 (opens_none _ _ p.1)

pub returns-in_err-check_star : goal.returns-in_err-check_star
returns-in_err-check_star c =
    rw (handed _ _ c.from_residual-in_err-check_star.ensures.1)
    (opens_refused _ _ _ (sym c.in_ok-caps.was ∙ c.«open».ensures) _ c.check_star.ensures _ c.in_err-check_star.was)
