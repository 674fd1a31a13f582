-- `mesh::insert_licensed` meets its contract.
use mathlib.Core.Path.{refl}
use Rattle.mesh.proofs.Answering.{edited_refused, edited_made}
use Rattle.mesh.proofs.Inserting.{insert_says}
use Rattle.map.proofs.Handed.{handed}
use Rattle.mesh.proofs.insert_licensed.Goals as goal

pub returns-in_err-caps : goal.returns-in_err-caps
returns-in_err-caps c = rw (handed _ _ c.from_residual.ensures.1) (edited_refused _ _ _ (λ m. insert_says m _ _ _ _) _ c.about_insert.ensures _ c.in_err-caps.was)

pub returns : goal.returns
returns c =
    let opens = c.about_insert.ensures.opens _ c.in_ok-caps.was in
    edited_made _ _ _ opens.0 _ (λ m. insert_says m _ _ _ _) _ opens.1 refl _ c.make_insert.ensures
