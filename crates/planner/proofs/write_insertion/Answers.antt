-- `planner::write_insertion` meets its contract.
use mathlib.Core.Path.{◌∙◌}
use Rattle.frames.proofs.Append.{append_length}
use Rattle.planner.proofs.Marking.{insertion_none, insertion_one}
use Rattle.planner.proofs.write_insertion.Goals as goal

pub returns-then-record_stands : goal.returns-then-record_stands
returns-then-record_stands c = insertion_none _ _ _ _ _ c.record_stands.ensures c.if-record_stands.true _ _ _

pub shape_of-out : goal.shape_of-out
shape_of-out c =
    append_length _ c.add_all.ensures ∙ append_length _ c.add-next.ensures

pub returns : goal.returns
returns c =
    insertion_one _ _ _ _ _ c.record_stands.ensures c.if-record_stands.false _ _ c.part.ensures.words c.add-next.ensures
    c.add_all.ensures
