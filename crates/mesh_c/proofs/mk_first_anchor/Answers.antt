-- `mesh_c::mk_first_anchor` meets its contract.
use Rattle.mesh_c.proofs.Queries.{sought}
use Rattle.mesh_c.proofs.Plain.{found_plain}
use Rattle.mesh_c.proofs.mk_first_anchor.Goals as goal

pub returns : goal.returns
returns c = sought found_plain _ _ _ c.first_anchor.ensures _ _ _ _ _ c.tell_found.ensures
