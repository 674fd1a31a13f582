-- `wanted::check_record` meets its contract.
use mathlib.Core.Path.{sym, ◌∙◌}
use native.Mathlib.Omega.{arith}
use Rattle.wanted.proofs.Reading.{check_short, check_type, check_marks, check_whole}
use Rattle.wanted.proofs.check_record.Goals as goal

pub returns-then-len-lt3 : goal.returns-then-len-lt3
returns-then-len-lt3 c = check_short _ _ (omega arith)

pub returns-then-len-at : goal.returns-then-len-at
returns-then-len-at c = check_short _ _ (omega arith)

pub returns-then-dimension-eq0 : goal.returns-then-dimension-eq0
returns-then-dimension-eq0 c =
    check_type _ _ (omega arith) _ c.word-t.ensures (sym c.dimension.ensures ∙ c.if-dimension-eq0.true)

pub returns-then-len-at-2 : goal.returns-then-len-at-2
returns-then-len-at-2 c =
    check_marks _ _ (omega arith) _ c.word-t.ensures (λ z. c.if-dimension-eq0.false (c.dimension.ensures ∙ z)) (omega (arith, c.mark_count.ensures))

pub returns : goal.returns
returns c =
    check_whole _ _ (omega arith) _ c.word-t.ensures (λ z. c.if-dimension-eq0.false (c.dimension.ensures ∙ z)) (omega (arith, c.mark_count.ensures))
