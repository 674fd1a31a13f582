-- `ask::capacities` meets its contract.
use mathlib.Core.Path.{sym, ◌∙◌}
use Rattle.ask.proofs.Asks.{mesh_none}
use Rattle.ask.proofs.Calls.{capacities_given}
use Rattle.store.proofs.Shut.{shut}
use Rattle.ask.proofs.capacities.Goals as goal

pub returns-in_err-marks : goal.returns-in_err-marks
returns-in_err-marks c =
    let p = shut _ _ _ _ c.from_residual.ensures.1 c.in_err-marks.was c.«open».ensures in
    rw p.0 (mesh_none _ _ _ _ p.1)

pub returns : goal.returns
returns c =
    capacities_given _ _ (sym c.in_ok-marks.was ∙ c.«open».ensures)
