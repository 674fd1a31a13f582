-- `store::marks_of` meets its contract.
use Rattle.store.proofs.Writes.{part_at}
use Rattle.store.proofs.marks_of.Goals as goal

pub returns : goal.returns
returns c = part_at _ _ _ _ _ c.part.ensures c.marks_place.ensures
