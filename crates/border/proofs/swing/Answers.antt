-- `border::swing` meets its contract.
use Rattle.border.proofs.Walked.{other_again}
use Rattle.border.proofs.swing.Goals as goal

pub returns-else-behind-g : goal.returns-else-behind-g
returns-else-behind-g c =
    other_again _ _ _ _ c.other-next.ensures c.other-behind.ensures
