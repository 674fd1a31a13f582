-- `plan_check::as_wanted` meets its contract.
use mathlib.Core.Path.{refl}
use native.Mathlib.Omega.{arith}
use borrow.Author.Tests.{not-true, not-false}
use Rattle.plan_check.proofs.Comparing.{compared_not, compared}
use Rattle.plan_check.proofs.as_wanted.Goals as goal

pub returns-then-not-each_stands : goal.returns-then-not-each_stands
returns-then-not-each_stands c =
    compared_not _ _ _ _ _ 65536 refl (omega arith) _ c.each_stands.ensures (not-true _ c.if-not-each_stands.true-raw)

pub returns : goal.returns
returns c =
    compared _ _ _ _ _ 65536 refl (omega arith) _ c.each_stands.ensures (not-false _ c.if-not-each_stands.false-raw) _ c.none_else.ensures
