-- `off_lines::write_title` meets its contract.
use Rattle.off_lines.proofs.Lines.{title_written}
use Rattle.off_lines.proofs.write_title.Goals as goal

pub returns : goal.returns
returns c =
    title_written c.add-first.ensures c.add-second.ensures c.add-third.ensures c.add.ensures
