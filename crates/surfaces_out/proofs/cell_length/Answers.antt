-- `surfaces_out::cell_length` meets its contract.
use mathlib.Core.Path.{◌∙◌, ap}
use lib.ListN.{length}
use Rattle.surfaces_out.proofs.Marked.{line_some, none_long_line}
use Rattle.surfaces_out.proofs.cell_length.Goals as goal

pub returns-then-t-eq0 : goal.returns-then-t-eq0
returns-then-t-eq0 c = none_long_line _ _ _ _ c.code_of-t.ensures c.if-t-eq0.true

pub returns : goal.returns
returns c =
    c.face_length.ensures ∙ ap length (line_some _ _ _ _ c.code_of-t.ensures c.if-t-eq0.false _ c.mark_count.ensures)
