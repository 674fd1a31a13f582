-- `mesh_c::mk_plan_check` meets its contract.
use Rattle.mesh_c.proofs.Plans.{by_place}
use Rattle.mesh_c.proofs.mk_plan_check.Goals as goal

pub returns : goal.returns
returns c = by_place _ _ _ _ c.tell_planned.ensures c.plan_check.ensures
