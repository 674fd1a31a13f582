-- `frames::write_cells` meets its contract.
use Rattle.frames.specs.Frames.{two_bytes}
use Rattle.frames.proofs.Texts.{counted_done, given_done}
use Rattle.frames.proofs.write_cells.Goals as goal

pub returns : goal.returns
returns c =
    given_done _ c.add_byte-first.ensures (counted_done two_bytes _ c.add_number-second.ensures c.add_cells-third.ensures) c.add.ensures
