-- `frames::write_half` meets its contract.
use mathlib.Core.Path.{refl}
use Rattle.frames.proofs.Texts.{given_done, way_done}
use Rattle.frames.proofs.write_half.Goals as goal

pub returns : goal.returns
returns c =
    given_done _ c.add_byte-first.ensures
    (way_done _ _ _ _ c.way_number.ensures refl c.add_half-second.ensures c.add_byte-last.ensures) c.add.ensures
