-- `off_lines::write_vertex` meets its contract.
use mathlib.Core.Path.{refl}
use Rattle.off_lines.proofs.Lines.{vertex_written}
use Rattle.off_lines.proofs.write_vertex.Goals as goal

pub returns : goal.returns
returns c =
    vertex_written _ _ _ _ _ _ _ _ c.metre.ensures.value c.metre.ensures.fits refl
    c.metre-2.ensures.value c.metre-2.ensures.fits refl c.metre-3.ensures.value c.metre-3.ensures.fits refl
    c.write_coordinate-first.ensures c.add-second.ensures c.write_coordinate-third.ensures c.add-fourth.ensures c.write_coordinate-fifth.ensures
    c.add.ensures
