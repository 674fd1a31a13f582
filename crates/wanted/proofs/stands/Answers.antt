-- `wanted::stands` meets its contract.
use native.Mathlib.Omega.{arith}
use Rattle.wanted.proofs.Standing.{stands_outside, stands_dead, stands_other, stands_licence, stands_marks}
use mathlib.Core.Path.{◌∙◌}
use Rattle.lists.proofs.Tested.{pointwise_same}
use Rattle.wanted.proofs.stands.Goals as goal

pub returns-then-caps-c : goal.returns-then-caps-c
returns-then-caps-c c = stands_outside _ _ _ _ _ _ (omega arith)

pub returns-then-code-eq0 : goal.returns-then-code-eq0
returns-then-code-eq0 c = stands_dead _ _ _ _ _ _ (omega arith) _ c.code_of-code.ensures c.if-code-eq0.true

pub returns-then-code-t : goal.returns-then-code-t
returns-then-code-t c =
    stands_other _ _ _ _ _ _ (omega arith) _ c.code_of-code.ensures c.if-code-eq0.false c.if-code-t.true

pub returns-then-licence_of-licence : goal.returns-then-licence_of-licence
returns-then-licence_of-licence c =
    stands_licence _ _ _ _ _ _ (omega arith) _ c.code_of-code.ensures c.if-code-eq0.false c.if-code-t.false _ c.licence_of.ensures c.if-licence_of-licence.true

pub returns : goal.returns
returns c =
    stands_marks _ _ _ _ _ _ (omega arith) _ c.code_of-code.ensures c.if-code-eq0.false c.if-code-t.false _ c.licence_of.ensures c.if-licence_of-licence.false _ c.marks_at.ensures.part.words _ (c.eq.ensures ∙ pointwise_same _ _)
