-- `mesh_c::mk_cycle` meets its contract.
use Rattle.mesh_c.proofs.Queries.{two_out}
use Rattle.mesh_c.proofs.mk_cycle.Goals as goal

pub returns : goal.returns
returns c = two_out _ _ _ _ _ _ _ _ _ c.cycle.ensures _ _ _ c.tell_value.ensures
