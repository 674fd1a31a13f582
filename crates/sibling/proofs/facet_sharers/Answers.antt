-- `sibling::facet_sharers` meets its contract.
use mathlib.Core.Path.{refl, ◌∙◌}
use Rattle.facet.proofs.Copy.{set_part}
use Rattle.sibling.proofs.Written.{shared_same}
use Rattle.sibling.proofs.facet_sharers.Goals as goal

pub returns : goal.returns
returns c =
    shared_same _ _ _ _ _ _ _ _ (c.part.ensures.words ∙ set_part _ _ _ _ _ _ _ c.copy_facet-n.ensures refl) c.sharers.ensures
