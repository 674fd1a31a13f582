-- `desk::serve` meets its contract.
use mathlib.Core.Path.{refl}
use Prim.Native.Nat.{◌-◌}
use native.Mathlib.Omega.{arith}
use borrow.Author.Rules.{rules}
use borrow.Author.Tests.{not-false}
use Rattle.desk.specs.Turns.{begin}
use Rattle.desk.proofs.Turning.{serving_none, serving_more}
use Rattle.desk.proofs.serve.Goals as goal

pub loop-init : goal.loop-init
unfolding begin
loop-init c = (serving_none _ _ _ _ _ refl (omega arith), search rules)

pub loop-preserved : goal.loop-preserved
loop-preserved c =
    (serving_more _ _ _ _ _ _ c.loop.at (18446744073709551615 - c.loop.counter) _ _ _ _ _ _ c.loop.invariant.0 (not-false _ c.if-not-at.false) c.loop.invariant.1 c.one_turn-at.ensures (omega arith), omega arith)
