-- `mesh_c::mk_centre` meets its contract.
use Rattle.mesh_c.proofs.Placed.{centred}
use Rattle.mesh_c.proofs.mk_centre.Goals as goal

pub returns : goal.returns
returns c = centred _ _ _ c.centre.ensures _ _ _ _ _ _ _ c.tell_centre.ensures
