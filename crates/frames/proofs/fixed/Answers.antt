-- `frames::fixed` meets its contract.
use Rattle.frames.proofs.Rows.{format_yes, format_no, remove_yes, remove_no, star_yes, star_no, anchors_yes, anchors_no, sibling_yes, sibling_no, none_of}
use Rattle.frames.proofs.fixed.Goals as goal

pub returns-then-n-eq5 : goal.returns-then-n-eq5
returns-then-n-eq5 c = λ other. format_yes _ _ c.byte_at-code.ensures _ _ c.in-240.is c.if-n-eq5.true c.number_at.ensures c.number_at-then-n-eq5.ensures

pub returns-else-n-eq5 : goal.returns-else-n-eq5
returns-else-n-eq5 c = λ other. format_no _ _ c.byte_at-code.ensures c.in-240.is c.if-n-eq5.false

pub returns-then-n-eq5-2 : goal.returns-then-n-eq5-2
returns-then-n-eq5-2 c = λ other. remove_yes _ _ c.byte_at-code.ensures _ _ c.in-208.is c.if-n-eq5-2.true c.number_at-then-n-eq5-2.ensures c.number_at-then-n-eq5-2-2.ensures

pub returns-else-n-eq5-2 : goal.returns-else-n-eq5-2
returns-else-n-eq5-2 c = λ other. remove_no _ _ c.byte_at-code.ensures c.in-208.is c.if-n-eq5-2.false

pub returns-then-n-eq4 : goal.returns-then-n-eq4
returns-then-n-eq4 c = λ other. star_yes _ _ c.byte_at-code.ensures _ _ c.in-80.is c.if-n-eq4.true c.byte_at.ensures c.number_at-then-n-eq4.ensures

pub returns-else-n-eq4 : goal.returns-else-n-eq4
returns-else-n-eq4 c = λ other. star_no _ _ c.byte_at-code.ensures c.in-80.is c.if-n-eq4.false

pub returns-then-n-eq4-2 : goal.returns-then-n-eq4-2
returns-then-n-eq4-2 c = λ other. anchors_yes _ _ c.byte_at-code.ensures _ _ c.in-81.is c.if-n-eq4-2.true c.byte_at-then-n-eq4-2.ensures c.number_at-then-n-eq4-2.ensures

pub returns-else-n-eq4-2 : goal.returns-else-n-eq4-2
returns-else-n-eq4-2 c = λ other. anchors_no _ _ c.byte_at-code.ensures c.in-81.is c.if-n-eq4-2.false

pub returns-then-n-eq4-3 : goal.returns-then-n-eq4-3
returns-then-n-eq4-3 c = λ other. sibling_yes _ _ c.byte_at-code.ensures _ _ c.in-91.is c.if-n-eq4-3.true c.number_at-then-n-eq4-3.ensures c.byte_at-then-n-eq4-3.ensures

pub returns-else-n-eq4-3 : goal.returns-else-n-eq4-3
returns-else-n-eq4-3 c = λ other. sibling_no _ _ c.byte_at-code.ensures c.in-91.is c.if-n-eq4-3.false

pub returns-in_default : goal.returns-in_default
returns-in_default c = λ other. none_of _ _ c.byte_at-code.ensures c.in_default.in_default-own.rest.0.0.0.0.1 other c.in_default.in_default-own.rest.0.0.0.1 c.in_default.in_default-own.rest.0.0.1 c.in_default.in_default-own.rest.0.1 c.in_default.in_default-own.rest.1
