-- `mesh_c::mk_points` meets its contract.
use Rattle.mesh_c.proofs.Placed.{cornered}
use Rattle.mesh_c.proofs.mk_points.Goals as goal

pub returns : goal.returns
returns c = cornered _ _ _ _ _ _ c.points.ensures _ _ _ c.tell_value.ensures
