-- `facet::matching` meets its contract.
use Rattle.facet.proofs.Copy.{marks_words}
use Rattle.facet.proofs.Match.{match_here}
use Rattle.facet.proofs.matching.Goals as goal

pub returns : goal.returns
returns c =
    match_here _ _ _ _ _ _ _ _ c.code_of.ensures (marks_words _ _ _ _ c.marks_at.ensures) c.first_facet.ensures
