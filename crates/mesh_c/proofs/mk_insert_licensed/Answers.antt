-- `mesh_c::mk_insert_licensed` meets its contract.
use Rattle.mesh_c.proofs.Edits.{changed}
use Rattle.mesh_c.proofs.mk_insert_licensed.Goals as goal

pub returns : goal.returns
returns c = changed _ _ c.tell_verdict.ensures _ _ _ c.insert_licensed.ensures
