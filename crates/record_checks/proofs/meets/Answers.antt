-- `record_checks::meets` meets its contract.
use mathlib.Core.Path.{refl}
use Prim.Native.Nat.{◌-◌}
use native.Mathlib.Omega.{arith}
use Rattle.record_checks.proofs.Steps.{look_none, look_here, look_more, look_full, looked}
use Rattle.record_checks.proofs.meets.Goals as goal

pub loop-init : goal.loop-init
loop-init c = refl

pub returns-then-link-eq0 : goal.returns-then-link-eq0
returns-then-link-eq0 c =
    looked _ _ _ _ _ _ c.first_of-link.ensures (look_none _ _ _ _ c.loop.counter _ c.loop.invariant c.if-link-eq0.true)

pub returns-then-at-c : goal.returns-then-at-c
returns-then-at-c c =
    looked _ _ _ _ _ _ c.first_of-link.ensures (look_here _ _ _ _ c.loop.counter _ (c.loop.link - 1) c.loop.invariant (omega arith) (omega arith) c.if-at-c.true)

pub loop-preserved : goal.loop-preserved
loop-preserved c =
    look_more _ _ _ _ c.loop.counter c.loop.link (c.loop.link - 1) _ c.loop.invariant (omega arith) (omega arith) c.if-at-c.false c.link_of-link.ensures

pub returns : goal.returns
returns c =
    looked _ _ _ _ _ _ c.first_of-link.ensures (look_full _ _ _ _ c.loop.counter _ c.loop.invariant (omega arith))
