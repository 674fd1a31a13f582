-- `insert_checks::face_full` meets its contract.
use mathlib.Core.Path.{refl, ◌∙◌}
use Rattle.facet.proofs.Copy.{set_part}
use Rattle.insert_checks.proofs.Faces.{face_told}
use Rattle.insert_checks.proofs.face_full.Goals as goal

pub returns : goal.returns
returns c =
    face_told _ _ _ _ _ _ _ _ _ _ (c.part.ensures.words ∙ set_part _ _ _ _ _ _ _ c.facet_set-n.ensures refl) c.sharers.ensures
