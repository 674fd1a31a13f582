-- `mesh_c::mk_count` meets its contract.
use Rattle.mesh_c.proofs.Queries.{answered}
use Rattle.mesh_c.proofs.Plain.{value_plain}
use Rattle.mesh_c.proofs.mk_count.Goals as goal

pub returns : goal.returns
returns c = answered value_plain _ _ _ c.count_of_type.ensures _ _ _ c.tell_value.ensures
