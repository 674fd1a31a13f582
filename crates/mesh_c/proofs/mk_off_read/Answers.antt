-- `mesh_c::mk_off_read` meets its contract.
use Rattle.mesh_c.proofs.Surfaces.{surface_read}
use Rattle.mesh_c.proofs.mk_off_read.Goals as goal

pub returns : goal.returns
returns c = surface_read _ _ _ _ _ _ c.read_off.ensures _ _ _ c.tell_surfaced.ensures
