-- `off::read_size` meets its contract.
use borrow.Author.Rules.{rules}
use Rattle.off.proofs.Sizes.{size_kept}
use Rattle.off.proofs.read_size.Goals as goal

pub returns : goal.returns
returns c = size_kept _ _ c.read_number.ensures _ (search rules)
