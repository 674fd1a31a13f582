-- `mesh_c::mk_edition` meets its contract.
use Rattle.mesh_c.proofs.Queries.{answered}
use Rattle.mesh_c.proofs.Plain.{value_plain}
use Rattle.mesh_c.proofs.mk_edition.Goals as goal

pub returns : goal.returns
returns c = answered value_plain _ _ _ c.edition.ensures _ _ _ c.tell_value.ensures
