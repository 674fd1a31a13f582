-- `mesh_c::mk_format` meets its contract.
use Rattle.mesh_c.proofs.Edits.{emptied}
use Rattle.mesh_c.proofs.mk_format.Goals as goal

pub returns : goal.returns
returns c = emptied _ _ c.tell_verdict.ensures _ _ _ c.format.ensures
