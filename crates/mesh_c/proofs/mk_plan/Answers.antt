-- `mesh_c::mk_plan` meets its contract.
use Rattle.mesh_c.proofs.Planner.{plan_told}
use Rattle.mesh_c.proofs.mk_plan.Goals as goal

pub returns : goal.returns
returns c = plan_told _ _ _ _ _ c.plan.ensures _ _ _ c.tell_proposal.ensures
