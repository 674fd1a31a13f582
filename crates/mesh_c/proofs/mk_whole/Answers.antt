-- `mesh_c::mk_whole` meets its contract.
use Rattle.mesh_c.proofs.Queries.{judged_yes, judged_no}
use Rattle.mesh_c.proofs.mk_whole.Goals as goal

pub returns-then-whole : goal.returns-then-whole
returns-then-whole c = judged_yes _ _ c.whole.ensures c.if-whole.true

pub returns-else-whole : goal.returns-else-whole
returns-else-whole c = judged_no _ _ c.whole.ensures c.if-whole.false
