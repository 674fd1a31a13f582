-- `edits::tallied` meets its contract.
use Rattle.edits.proofs.Counting.{tally_made, tally_stopped}
use Rattle.edits.proofs.tallied.Goals as goal

pub returns-in-Ok : goal.returns-in-Ok
returns-in-Ok c = tally_made _ _ _ c.in-Ok.is _ c.raised.ensures

pub returns-in-Err : goal.returns-in-Err
returns-in-Err c =
    tally_stopped _ _ _ _ c.in-Err.is _ _ c.raised-in-Err.ensures c.raised-in-Err-2.ensures
