-- `lists::repeats` meets its contract.
use mathlib.Core.Path.{refl}
use Prim.Native.Nat.{◌+◌}
use native.Mathlib.Omega.{arith}
use Rattle.lists.proofs.Scan.{has_behind, repeats_stop, repeats_go, repeats_end}
use Rattle.lists.proofs.repeats.Goals as goal

pub loop-i-init : goal.loop-i-init
loop-i-init c = (omega arith, refl)

pub returns-then-has : goal.returns-then-has
returns-then-has c = repeats_stop _ c.loop-i.i c.loop-i.invariant.1 (has_behind _ c.args.l.now (c.loop-i.i + 1) _ _ c.has.ensures c.if-has.true) (omega arith)

pub loop-i-preserved : goal.loop-i-preserved
loop-i-preserved c = (omega arith, repeats_go _ c.loop-i.i c.loop-i.invariant.1 (has_behind _ c.args.l.now (c.loop-i.i + 1) _ _ c.has.ensures c.if-has.false) (omega arith))

pub returns : goal.returns
returns c = repeats_end _ c.loop-i.i c.loop-i.invariant.1 (omega arith)
