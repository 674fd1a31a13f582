-- `chain::behind` meets its contract.
use native.Mathlib.Omega.{arith}
use Rattle.chain.proofs.Inner.{inner_none, inner_behind}
use Rattle.chain.proofs.behind.Goals as goal

pub returns-then-link-eq0 : goal.returns-then-link-eq0
returns-then-link-eq0 c = λ _. inner_none _ _

pub returns : goal.returns
returns c = inner_behind _ _ _ _ _ (omega (arith, c.if-link-eq0.false)) c.link_of.ensures
