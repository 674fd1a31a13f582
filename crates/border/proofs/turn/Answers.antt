-- `border::turn` meets its contract.
use Rattle.border.proofs.Walked.{turn_stays}
use Rattle.border.proofs.turn.Goals as goal

pub returns : goal.returns
returns c =
    record {
      stays = λ s p b. turn_stays _ _ s p _ b _ _ _ _ _ _ _ _ c.cell_of-c.ensures c.code_of.ensures c.corner_with.ensures c.at_corner-bits.ensures c.facet_of.ensures c.swing.ensures c.half_of.ensures;
    }
