-- `mesh_c::mk_capacities` meets its contract.
use Rattle.mesh_c.proofs.Queries.{faced}
use Rattle.mesh_c.proofs.Plain.{pair_plain}
use Rattle.mesh_c.proofs.mk_capacities.Goals as goal

pub returns : goal.returns
returns c = faced pair_plain _ _ _ c.capacities.ensures _ _ _ _ _ c.tell_pair.ensures
