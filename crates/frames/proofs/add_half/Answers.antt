-- `frames::add_half` meets its contract.
use Rattle.frames.proofs.Texts.{half_done}
use Rattle.frames.proofs.add_half.Goals as goal

pub returns : goal.returns
returns c =
    half_done c.args.h c.add_number-next.ensures c.add_byte.ensures
