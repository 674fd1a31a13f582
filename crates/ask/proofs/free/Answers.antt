-- `ask::free` meets its contract.
use mathlib.Core.Path.{refl, sym, ◌∙◌}
use native.Mathlib.Omega.{arith}
use Rattle.ask.proofs.Asks.{mesh_none}
use Rattle.ask.proofs.Frees.{free_start, free_more, free_found, free_none}
use Rattle.store.proofs.Shut.{shut}
use Rattle.ask.proofs.free.Goals as goal

pub returns-in_err-caps : goal.returns-in_err-caps
returns-in_err-caps c =
    let p = shut _ _ _ _ c.from_residual.ensures.1 c.in_err-caps.was c.«open».ensures in
    rw p.0 (mesh_none _ _ _ _ p.1)

pub loop-c-init : goal.loop-c-init
loop-c-init c = (sym c.in_ok-caps.was ∙ c.«open».ensures, free_start _ _)

pub returns-then-code_of-eq0 : goal.returns-then-code_of-eq0
returns-then-code_of-eq0 c =
    free_found _ _ c.loop-c.invariant.0 _ c.loop-c.invariant.1 _ (omega arith) c.code_of.ensures c.if-code_of-eq0.true _ refl

pub loop-c-preserved : goal.loop-c-preserved
loop-c-preserved c =
    (c.loop-c.invariant.0, free_more _ _ _ _ c.loop-c.invariant.1 c.code_of.ensures c.if-code_of-eq0.false)

pub returns : goal.returns
returns c =
    free_none _ _ c.loop-c.invariant.0 _ c.loop-c.invariant.1 (omega arith) (omega arith)
