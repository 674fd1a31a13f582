-- `off_lines::write_head` meets its contract.
use Rattle.frames.proofs.Append.{append_more}
use Rattle.off_lines.proofs.write_head.Goals as goal

pub returns : goal.returns
returns c =
    append_more _ _ c.write_title-next.ensures c.write_counts.ensures
