-- `mesh_c::mk_anchors` meets its contract.
use Rattle.mesh_c.proofs.Queries.{listed_out}
use Rattle.mesh_c.proofs.mk_anchors.Goals as goal

pub returns : goal.returns
returns c = listed_out _ _ _ _ _ _ c.anchors.ensures _ _ _ c.tell_value.ensures
