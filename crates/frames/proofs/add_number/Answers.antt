-- `frames::add_number` meets its contract.
use Rattle.frames.proofs.Texts.{number_done}
use Rattle.frames.proofs.add_number.Goals as goal

pub returns : goal.returns
returns c =
    number_done c.args.n c.add_byte-next.ensures c.add_byte.ensures
