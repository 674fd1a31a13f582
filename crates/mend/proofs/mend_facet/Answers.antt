-- `settle::mend_facet` meets its contract.
use mathlib.Core.Path.{refl, ◌∙◌}
use Rattle.facet.proofs.Copy.{set_part}
use Rattle.mend.proofs.Mending.{mend_step}
use Rattle.mend.proofs.mend_facet.Goals as goal

pub returns : goal.returns
returns c =
    mend_step _ _ _ _ _ _ (c.part.ensures.words ∙ set_part _ _ _ _ _ _ _ c.facet_set-n.ensures refl) c.mend.ensures
