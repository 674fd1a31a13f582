-- `positions::corners` meets its contract.
use mathlib.Core.Path.{ap, ◌∙◌}
use Prim.Native.Nat.{ℕ}
use Rattle.shapes.specs.Shapes.{shape}
use Rattle.positions.proofs.Pointing.{cornered_refused, cornered_given}
use Rattle.positions.proofs.corners.Goals as goal

pub returns-in-Err : goal.returns-in-Err
returns-in-Err c =
    cornered_refused _ _ _ _ c.about_corners.ensures _ c.in-Err.is _ c.origins.ensures

pub returns-in-Ok : goal.returns-in-Ok
returns-in-Ok c =
    let opens = c.about_corners.ensures.opens _ c.in-Ok.is in
    cornered_given _ _ _ _ opens.0 opens.1 _ (c.mark_count-n.ensures ∙ ap (λ (t : ℕ). (shape t).marks) c.code_of.ensures) _ c.corner_points-at.ensures
