-- `insert_checks::check_insert` meets its contract.
use mathlib.Core.Path.{sym, ◌∙◌}
use Rattle.insert_checks.proofs.Rows.{in_outside, in_live, in_type, in_count, in_mark, in_twice, in_same, in_third, in_full, in_good}
use Rattle.insert_checks.proofs.check_insert.Goals as goal

pub returns-then-caps-c : goal.returns-then-caps-c
returns-then-caps-c c = in_outside _ _ _ _ c.if-caps-c.true

pub returns-then-code_of-ne0 : goal.returns-then-code_of-ne0
returns-then-code_of-ne0 c = in_live _ _ _ _ c.if-caps-c.false _ c.code_of.ensures c.if-code_of-ne0.true

pub returns-then-dimension-eq0 : goal.returns-then-dimension-eq0
returns-then-dimension-eq0 c = in_type _ _ _ _ c.if-caps-c.false _ c.code_of.ensures c.if-code_of-ne0.false _ c.dimension.ensures c.if-dimension-eq0.true

pub returns-then-marks-mark_count : goal.returns-then-marks-mark_count
returns-then-marks-mark_count c =
    in_count _ _ _ _ c.if-caps-c.false _ c.code_of.ensures c.if-code_of-ne0.false _ c.dimension.ensures c.if-dimension-eq0.false _ c.mark_count.ensures c.if-marks-mark_count.true

pub returns-then-reaches : goal.returns-then-reaches
returns-then-reaches c =
    in_mark _ _ _ _ c.if-caps-c.false _ c.code_of.ensures c.if-code_of-ne0.false _ c.dimension.ensures c.if-dimension-eq0.false _ c.mark_count.ensures c.if-marks-mark_count.false (sym c.reaches.ensures ∙ c.if-reaches.true)

pub returns-then-repeats : goal.returns-then-repeats
returns-then-repeats c =
    in_twice _ _ _ _ c.if-caps-c.false _ c.code_of.ensures c.if-code_of-ne0.false _ c.dimension.ensures c.if-dimension-eq0.false _ c.mark_count.ensures c.if-marks-mark_count.false (sym c.reaches.ensures ∙ c.if-reaches.false) (sym c.repeats.ensures ∙ c.if-repeats.true)

pub returns-then-same_cell : goal.returns-then-same_cell
returns-then-same_cell c =
    in_same _ _ _ _ c.if-caps-c.false _ c.code_of.ensures c.if-code_of-ne0.false _ c.dimension.ensures c.if-dimension-eq0.false _ c.mark_count.ensures c.if-marks-mark_count.false (sym c.reaches.ensures ∙ c.if-reaches.false) (sym c.repeats.ensures ∙ c.if-repeats.false) _ c.same_cell.ensures c.if-same_cell.true

pub returns-then-third_solid : goal.returns-then-third_solid
returns-then-third_solid c =
    in_third _ _ _ _ c.if-caps-c.false _ c.code_of.ensures c.if-code_of-ne0.false _ c.dimension.ensures c.if-dimension-eq0.false _ c.mark_count.ensures c.if-marks-mark_count.false (sym c.reaches.ensures ∙ c.if-reaches.false) (sym c.repeats.ensures ∙ c.if-repeats.false) _ c.same_cell.ensures c.if-same_cell.false _ c.third_solid.ensures c.if-third_solid.true

pub returns-then-full_mark : goal.returns-then-full_mark
returns-then-full_mark c =
    in_full _ _ _ _ c.if-caps-c.false _ c.code_of.ensures c.if-code_of-ne0.false _ c.dimension.ensures c.if-dimension-eq0.false _ c.mark_count.ensures c.if-marks-mark_count.false (sym c.reaches.ensures ∙ c.if-reaches.false) (sym c.repeats.ensures ∙ c.if-repeats.false) _ c.same_cell.ensures c.if-same_cell.false _ c.third_solid.ensures c.if-third_solid.false _ c.full_mark.ensures c.if-full_mark.true

pub returns : goal.returns
returns c =
    in_good _ _ _ _ c.if-caps-c.false _ c.code_of.ensures c.if-code_of-ne0.false _ c.dimension.ensures c.if-dimension-eq0.false _ c.mark_count.ensures c.if-marks-mark_count.false (sym c.reaches.ensures ∙ c.if-reaches.false) (sym c.repeats.ensures ∙ c.if-repeats.false) _ c.same_cell.ensures c.if-same_cell.false _ c.third_solid.ensures c.if-third_solid.false _ c.full_mark.ensures c.if-full_mark.false
