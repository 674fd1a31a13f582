-- `sibling::face_beside` meets its contract.
use mathlib.Core.Path.{refl, ◌∙◌}
use Rattle.facet.proofs.Copy.{set_part}
use Rattle.sibling.proofs.Turned.{direction_sets}
use Rattle.sibling.proofs.face_beside.Goals as goal

pub returns : goal.returns
returns c =
    direction_sets _ _ _ _ _ _ _ c.direction.ensures (c.part.ensures.words ∙ set_part _ _ _ _ _ _ _ c.facet_set-n.ensures refl)
    (c.part-2.ensures.words ∙ set_part _ _ _ _ _ _ _ c.facet_set-k.ensures refl)
