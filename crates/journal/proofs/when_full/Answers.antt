-- `journal::when_full` meets its contract.
use Rattle.journal.proofs.Opened.{full_refused, full_open}
use Rattle.map.proofs.Handed.{handed}
use Rattle.journal.proofs.when_full.Goals as goal

pub returns-in_err-own : goal.returns-in_err-own
returns-in_err-own c = rw (handed _ _ c.from_residual.ensures.1) (full_refused _ _ c.in_err-own.was)

pub returns : goal.returns
returns c = full_open _ _ c.in_ok-own.was
