-- `sibling::edge_beside` meets its contract.
use Rattle.sibling.proofs.Turned.{pair_way, edge_is}
use Rattle.sibling.proofs.edge_beside.Goals as goal

pub returns : goal.returns
returns c =
    record {
      runs = λ first second.
          pair_way _ _ _ _ _ _ _ _
          (edge_is _ _ _ _ _ _ _ _ c.column.ensures c.word-a.ensures c.column-2.ensures c.word-b.ensures first)
          (edge_is _ _ _ _ _ _ _ _ c.column-3.ensures c.word-c.ensures c.column-4.ensures c.word-d.ensures second)
          _ _ _ c.run_way.ensures c.same_pair.ensures c.same_pair-2.ensures;
    }
