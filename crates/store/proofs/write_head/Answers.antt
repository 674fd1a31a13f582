-- `store::write_head` meets its contract.
use native.Mathlib.Omega.{arith}
use Rattle.store.specs.Layout.{magic}
use Rattle.store.proofs.Heads.{head_made}
use Rattle.store.proofs.write_head.Goals as goal

pub returns : goal.returns
unfolding magic
returns c =
    head_made _ _ _ _ _ _ _ _ _ _ _ _ _ _ c.put.ensures
    c.put-2.ensures c.put-3.ensures c.put-4.ensures
    (omega arith) (omega arith) (omega arith) (omega arith) (omega arith) (omega arith) (omega arith) (omega arith)
