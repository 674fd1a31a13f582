-- `positions::points` meets its contract.
use mathlib.Core.Path.{ap, ◌∙◌}
use Prim.Native.Nat.{ℕ}
use Rattle.shapes.specs.Shapes.{shape}
use Rattle.positions.proofs.Pointing.{pointed_refused, pointed_short, pointed_written}
use Rattle.map.proofs.Handed.{handed}
use Rattle.positions.proofs.points.Goals as goal

pub returns-in_err-caps : goal.returns-in_err-caps
returns-in_err-caps c = rw (handed _ _ c.from_residual.ensures.1) (pointed_refused _ _ _ _ _ c.about_corners.ensures _ c.in_err-caps.was)

pub returns-then-out-n : goal.returns-then-out-n
returns-then-out-n c =
    let opens = c.about_corners.ensures.opens _ c.in_ok-caps.was in
    pointed_short _ _ _ _ _ opens.0 opens.1 _ (c.mark_count-n.ensures ∙ ap (λ (t : ℕ). (shape t).marks) c.code_of.ensures) c.if-out-n.true

pub returns : goal.returns
returns c =
    let opens = c.about_corners.ensures.opens _ c.in_ok-caps.was in
    pointed_written _ _ _ _ _ opens.0 opens.1 _ (c.mark_count-n.ensures ∙ ap (λ (t : ℕ). (shape t).marks) c.code_of.ensures) c.if-out-n.false _ c.write_points.ensures
