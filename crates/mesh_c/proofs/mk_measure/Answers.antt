-- `mesh_c::mk_measure` meets its contract.
use Rattle.mesh_c.proofs.Placed.{sized}
use Rattle.mesh_c.proofs.mk_measure.Goals as goal

pub returns : goal.returns
returns c = sized _ _ _ c.measure.ensures _ _ _ _ _ c.tell_measure.ensures
