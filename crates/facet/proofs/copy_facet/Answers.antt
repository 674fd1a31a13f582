-- `facet::copy_facet` meets its contract.
use Rattle.facet.proofs.Copy.{marks_words}
use Rattle.facet.proofs.copy_facet.Goals as goal

pub returns : goal.returns
returns c =
    rw (← c.code_of.ensures, ← marks_words _ _ _ _ c.marks_at.ensures) c.facet_set.ensures
