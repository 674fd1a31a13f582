-- `mesh::remove` meets its contract.
use mathlib.Core.Path.{refl}
use Rattle.mesh.proofs.Answering.{edited_refused, edited_made}
use Rattle.mesh.proofs.Removing.{remove_says}
use Rattle.map.proofs.Handed.{handed}
use Rattle.mesh.proofs.remove.Goals as goal

pub returns-in_err-caps : goal.returns-in_err-caps
returns-in_err-caps c = rw (handed _ _ c.from_residual.ensures.1) (edited_refused _ _ _ (λ m. remove_says m _) _ c.about_cell.ensures _ c.in_err-caps.was)

pub returns : goal.returns
returns c =
    let opens = c.about_cell.ensures.opens _ c.in_ok-caps.was in
    edited_made _ _ _ opens.0 _ (λ m. remove_says m _) _ opens.1 refl _ c.make_remove.ensures
