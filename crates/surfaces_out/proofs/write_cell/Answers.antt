-- `surfaces_out::write_cell` meets its contract.
use Rattle.surfaces_out.proofs.Marked.{none_written, some_written}
use Rattle.surfaces_out.proofs.write_cell.Goals as goal

pub returns-then-t-eq0 : goal.returns-then-t-eq0
returns-then-t-eq0 c = none_written _ _ _ _ c.code_of-t.ensures c.if-t-eq0.true

pub returns : goal.returns
returns c =
    some_written _ _ _ _ c.code_of-t.ensures c.if-t-eq0.false _ c.mark_count.ensures c.write_face.ensures
