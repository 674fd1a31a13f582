-- `ask::edition` meets its contract.
use mathlib.Core.Path.{sym, ◌∙◌}
use Rattle.ask.proofs.Asks.{mesh_none}
use Rattle.ask.proofs.Calls.{edition_given}
use Rattle.store.proofs.Shut.{shut}
use Rattle.ask.proofs.edition.Goals as goal

pub returns-in_err-edition : goal.returns-in_err-edition
returns-in_err-edition c =
    let p = shut _ _ _ _ c.from_residual.ensures.1 c.in_err-edition.was c.«open».ensures in
    rw p.0 (mesh_none _ _ _ _ p.1)

pub returns : goal.returns
returns c =
    edition_given _ _ (sym c.in_ok-edition.was ∙ c.«open».ensures)
