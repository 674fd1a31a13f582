-- `planner::mark_record` meets its contract.
use Rattle.planner.proofs.Marking.{marked_size, mark_yes, mark_no}
use Rattle.planner.proofs.mark_record.Goals as goal

pub returns-then-record_stands : goal.returns-then-record_stands
returns-then-record_stands c =
    mark_yes _ _ _ _ _ c.record_stands.ensures c.if-record_stands.true _ _ c.word.ensures _ _ c.put_cell.ensures

pub shape_of-standing-then-record_stands : goal.shape_of-standing-then-record_stands
shape_of-standing-then-record_stands c = marked_size (returns-then-record_stands c)

pub returns : goal.returns
returns c = mark_no _ _ _ _ _ c.record_stands.ensures c.if-record_stands.false _ _
