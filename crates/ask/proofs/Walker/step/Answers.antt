-- `ask::Walker::step` meets its contract.
use Rattle.map.proofs.Handed.{handed}
use Rattle.ask.proofs.Calls.{step_refused, step_next}
use Rattle.ask.proofs.Walker.step.Goals as goal

pub returns-in_err-next : goal.returns-in_err-next
returns-in_err-next c =
    rw (handed _ _ c.from_residual.ensures.1) (step_refused _ _ _ _ _ c.cell_of.ensures c.facet_of.ensures c.sibling.ensures _ c.in_err-next.was)

pub returns : goal.returns
returns c =
    step_next _ _ _ _ _ c.cell_of.ensures c.facet_of.ensures c.sibling.ensures _ _ c.in_ok-next.was
