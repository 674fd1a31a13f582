-- `mesh::take_out` meets its contract.
use Rattle.mesh.proofs.Removing.{remove_none, remove_made}
use Rattle.mesh.proofs.take_out.Goals as goal

pub returns-then-count-eq0 : goal.returns-then-count-eq0
returns-then-count-eq0 c = remove_none _ _ _ _ _ c.facet_table-rows.ensures _ _ c.count_of-count.ensures c.if-count-eq0.true

pub returns : goal.returns
returns c =
    remove_made _ _ _ _ _ c.facet_table-rows.ensures _ _ c.count_of-count.ensures _ _ _ _ _ _ _ c.part.ensures.words c.in_far.ensures c.relink_all.ensures c.put_body.ensures c.clear_siblings.ensures c.settle.ensures c.put_count.ensures
