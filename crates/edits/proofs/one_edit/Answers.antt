-- `edits::one_edit` meets its contract.
use native.Mathlib.Omega.{arith}
use Rattle.edits.proofs.Turns.{insert_turned, remove_short, remove_turned, kind_unknown}
use Rattle.edits.proofs.one_edit.Goals as goal

pub returns-then-kind-eq1 : goal.returns-then-kind-eq1
returns-then-kind-eq1 c =
    insert_turned _ _ (omega arith) _ _ c.record_end-end.ensures _ _ c.one_record.ensures _ c.step_of.ensures

pub returns-then-words-eq0 : goal.returns-then-words-eq0
returns-then-words-eq0 c = remove_short _ _ (omega arith) _ (omega arith)

pub returns-then-kind-eq2 : goal.returns-then-kind-eq2
returns-then-kind-eq2 c =
    remove_turned _ _ (omega arith) _ (λ z. omega arith) _ c.word.ensures _ _ c.remove.ensures _ c.step_of-then-kind-eq2.ensures

pub returns : goal.returns
returns c = kind_unknown _ _ (λ z. omega arith) (λ z. omega arith) _
