-- `surfaces_out::write_text` meets its contract.
use Rattle.frames.proofs.Append.{append_more}
use Rattle.surfaces_out.proofs.write_text.Goals as goal

pub returns : goal.returns
returns c =
    append_more _ _ c.write_head-first.ensures (append_more _ _ c.write_vertices-second.ensures c.write_faces.ensures)
