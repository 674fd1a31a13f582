-- `mesh_c::mk_licences` meets its contract.
use Rattle.mesh_c.proofs.Journals.{by_count}
use Rattle.mesh_c.proofs.mk_licences.Goals as goal

pub returns : goal.returns
returns c = by_count _ _ _ _ c.tell_value.ensures c.licences.ensures
