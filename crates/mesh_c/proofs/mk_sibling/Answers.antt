-- `mesh_c::mk_sibling` meets its contract.
use Rattle.mesh_c.proofs.Queries.{faced}
use Rattle.mesh_c.proofs.Plain.{half_plain}
use Rattle.mesh_c.proofs.mk_sibling.Goals as goal

pub returns : goal.returns
returns c = faced half_plain _ _ _ c.sibling.ensures _ _ _ _ _ c.tell_half.ensures
