-- `mesh_c::mk_free` meets its contract.
use Rattle.mesh_c.proofs.Queries.{sought}
use Rattle.mesh_c.proofs.Plain.{cell_plain}
use Rattle.mesh_c.proofs.mk_free.Goals as goal

pub returns : goal.returns
returns c = sought cell_plain _ _ _ c.free.ensures _ _ _ _ _ c.tell_cell.ensures
