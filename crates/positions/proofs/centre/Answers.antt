-- `positions::centre` meets its contract.
use mathlib.Core.Path.{ap, ◌∙◌}
use Prim.Native.Nat.{ℕ}
use Rattle.shapes.specs.Shapes.{shape}
use Rattle.positions.proofs.Replies.{centred_refused, centred_given}
use Rattle.map.proofs.Handed.{handed}
use Rattle.positions.proofs.centre.Goals as goal

pub returns-in_err-caps : goal.returns-in_err-caps
returns-in_err-caps c = rw (handed _ _ c.from_residual.ensures.1) (centred_refused _ _ _ _ c.about_corners.ensures _ c.in_err-caps.was)

pub returns : goal.returns
returns c =
    let opens = c.about_corners.ensures.opens _ c.in_ok-caps.was in
    centred_given _ _ _ _ opens.0 opens.1 _ (c.mark_count-n.ensures ∙ ap (λ (t : ℕ). (shape t).marks) c.code_of.ensures)
    _ _ _ c.total.ensures c.total-2.ensures c.total-3.ensures
    _ _ _ c.mean-x.ensures c.mean-y.ensures c.mean-z.ensures
