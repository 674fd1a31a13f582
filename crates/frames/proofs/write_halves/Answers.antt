-- `frames::write_halves` meets its contract.
use Rattle.frames.specs.Frames.{cell_and_facet}
use Rattle.frames.proofs.Texts.{counted_done, given_done}
use Rattle.frames.proofs.write_halves.Goals as goal

pub returns : goal.returns
returns c =
    given_done _ c.add_byte-first.ensures (counted_done cell_and_facet _ c.add_number-second.ensures c.add_halves-third.ensures) c.add.ensures
