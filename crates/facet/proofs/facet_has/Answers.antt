-- `facet::facet_has` meets its contract.
use Rattle.facet.proofs.Copy.{marks_words}
use Rattle.facet.proofs.facet_has.Goals as goal

pub returns : goal.returns
returns c =
    rw (← c.code_of.ensures, ← marks_words _ _ _ _ c.marks_at.ensures) c.set_has.ensures
