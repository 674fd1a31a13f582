-- `mesh_c::mk_off_write` meets its contract.
use Rattle.mesh_c.proofs.Surfaces.{surface_written}
use Rattle.mesh_c.proofs.mk_off_write.Goals as goal

pub returns : goal.returns
returns c = surface_written _ _ _ _ _ c.write_off.ensures _ _ _ c.tell_written.ensures
