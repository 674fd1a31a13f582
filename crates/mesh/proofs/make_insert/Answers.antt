-- `mesh::make_insert` meets its contract.
use Rattle.mesh.proofs.Inserting.{insert_none, insert_made}
use Rattle.mesh.proofs.make_insert.Goals as goal

pub returns-then-count-gt-MOST_CAPACITY : goal.returns-then-count-gt-MOST_CAPACITY
returns-then-count-gt-MOST_CAPACITY c = insert_none _ _ _ _ c.facet_table-rows.ensures _ _ c.count_of-count.ensures c.if-count-gt-MOST_CAPACITY.true

pub returns : goal.returns
returns c =
    insert_made _ _ _ _ c.facet_table-rows.ensures _ _ c.count_of-count.ensures _ _ _ _ _ c.in_far.ensures c.put_body.ensures c.relink_all.ensures c.settle.ensures c.put_count.ensures
