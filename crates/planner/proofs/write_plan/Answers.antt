-- `planner::write_plan` meets its contract.
use mathlib.Core.Path.{◌∙◌}
use Rattle.frames.proofs.Append.{append_length}
use Rattle.planner.proofs.Answered.{both_written}
use Rattle.planner.proofs.write_plan.Goals as goal

pub shape_of-out : goal.shape_of-out
shape_of-out c =
    append_length _ c.write_insertions.ensures.appended
    ∙ append_length _ c.write_removals-next.ensures

pub returns : goal.returns
returns c =
    both_written _ _ _ _ c.write_removals-next.ensures c.write_insertions.ensures
