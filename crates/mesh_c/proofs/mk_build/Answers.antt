-- `mesh_c::mk_build` meets its contract.
use Rattle.mesh_c.proofs.Edits.{raised}
use Rattle.mesh_c.proofs.mk_build.Goals as goal

pub returns : goal.returns
returns c = raised _ _ _ _ _ c.build.ensures _ _ _ c.tell_built.ensures
