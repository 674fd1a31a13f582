-- `frames::read` meets its contract.
use mathlib.Core.Path.{sym, ◌∙◌}
use Rattle.frames.proofs.Rows.{insert_short, insert_half, insert_whole, read_bad, read_none, read_fixed, read_insert}
use Rattle.frames.proofs.read.Goals as goal

pub returns-then-bad_line : goal.returns-then-bad_line
returns-then-bad_line c = read_bad _ _ (sym c.bad_line.ensures ∙ c.if-bad_line.true)

pub returns-then-byte_at-ne160 : goal.returns-then-byte_at-ne160
returns-then-byte_at-ne160 c = read_fixed _ _ _ _ c.byte_at.ensures (sym c.bad_line.ensures ∙ c.if-bad_line.false) c.if-byte_at-ne160.true c.fixed.ensures

pub returns-then-n-lt6 : goal.returns-then-n-lt6
returns-then-n-lt6 c = read_none _ _ (sym c.bad_line.ensures ∙ c.if-bad_line.false) (insert_short _ _ c.byte_at.ensures c.if-byte_at-ne160.false c.if-n-lt6.true)

pub returns-then-n-eq1 : goal.returns-then-n-eq1
returns-then-n-eq1 c =
    read_none _ _ (sym c.bad_line.ensures ∙ c.if-bad_line.false) (insert_half _ _ c.byte_at.ensures c.if-byte_at-ne160.false c.if-n-lt6.false c.if-n-eq1.true)

pub returns : goal.returns
returns c =
    read_insert _ _ _ _ _ _ _ (sym c.bad_line.ensures ∙ c.if-bad_line.false) (insert_whole _ _ c.byte_at.ensures c.if-byte_at-ne160.false c.if-n-lt6.false c.if-n-eq1.false) c.number_at.ensures c.number_at-2.ensures c.byte_at-2.ensures c.read_marks-count.ensures
