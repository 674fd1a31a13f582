-- `picture::put_near` meets its contract.
use mathlib.Core.Path.{◌≡◌}
use native.Mathlib.Omega.{arith}
use Rattle.picture.proofs.Fills.{fills_start, near_more}
use Rattle.store.specs.Layout.{near_marks}
use Rattle.picture.proofs.put_near.Goals as goal

pub loop-k-init : goal.loop-k-init
loop-k-init c = fills_start _ _ _ _ _

pub loop-k-preserved : goal.loop-k-preserved
loop-k-preserved c =
    near_more _ _ _ _ _ _ c.loop-k.k _ c.loop-k.invariant c.word.ensures c.write_near.ensures (omega arith)

pub returns : goal.returns
returns c = let all : c.loop-k.k ≡ near_marks = omega arith in rw all at c.loop-k.invariant
