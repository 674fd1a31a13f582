-- `replay::replay` meets its contract.
use native.Mathlib.Omega.{arith}
use Rattle.replay.proofs.Runs.{run_none, run_more, run_all, run_size}
use Rattle.replay.proofs.replay.Goals as goal

pub loop-k-init : goal.loop-k-init
loop-k-init c = run_none _ _ _ (omega arith)

pub loop-k-preserved : goal.loop-k-preserved
loop-k-preserved c =
    run_more _ _ _ _ c.loop-k.k _ c.loop-k.invariant c.one_entry.ensures

pub returns : goal.returns
returns c =
    run_all _ _ _ c.loop-k.k _ c.loop-k.invariant (omega arith) (omega arith)

pub shape_of-w : goal.shape_of-w
shape_of-w c = run_size c.loop-k.invariant
