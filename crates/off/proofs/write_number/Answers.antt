-- `off::write_number` meets its contract.
use Rattle.off.specs.Writing.{digits_of}
use Rattle.off.proofs.write_number.Goals as goal

pub returns : goal.returns
unfolding digits_of
returns c = c.add_digits.ensures
