-- `mesh_c::mk_border` meets its contract.
use Rattle.mesh_c.proofs.Queries.{answered}
use Rattle.mesh_c.proofs.Plain.{truth_plain}
use Rattle.mesh_c.proofs.mk_border.Goals as goal

pub returns : goal.returns
returns c = answered truth_plain _ _ _ c.border.ensures _ _ _ c.tell_truth.ensures
