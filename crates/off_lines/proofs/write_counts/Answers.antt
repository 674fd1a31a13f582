-- `off_lines::write_counts` meets its contract.
use Rattle.off_lines.proofs.Lines.{counts_written}
use Rattle.off_lines.proofs.write_counts.Goals as goal

pub returns : goal.returns
returns c =
    counts_written _ _ c.write_number-first.ensures c.add-second.ensures c.write_number-third.ensures c.add-fourth.ensures c.write_number-fifth.ensures
    c.add.ensures
