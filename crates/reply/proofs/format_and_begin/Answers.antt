-- `reply::format_and_begin` meets its contract.
use native.Mathlib.Omega.{arith}
use Rattle.reply.proofs.Begins.{marks_above, cells_above, mesh_short, journal_short, start_short, begin_made}
use Rattle.reply.proofs.format_and_begin.Goals as goal

pub returns-then-marks-gt-MOST : goal.returns-then-marks-gt-MOST
returns-then-marks-gt-MOST c = marks_above _ _ _ (omega arith)

pub returns-then-cells-gt-MOST : goal.returns-then-cells-gt-MOST
returns-then-cells-gt-MOST c = cells_above _ _ _ (omega arith)

pub returns-then-mesh-lt-ROOM : goal.returns-then-mesh-lt-ROOM
returns-then-mesh-lt-ROOM c = mesh_short _ _ _ (omega arith) (omega arith) (omega arith)

pub returns-then-journal-lt-HEAD_WORDS : goal.returns-then-journal-lt-HEAD_WORDS
returns-then-journal-lt-HEAD_WORDS c = journal_short _ _ _ (omega arith) (omega arith) (omega arith) (omega arith)

pub returns-then-start-lt-ROOM : goal.returns-then-start-lt-ROOM
returns-then-start-lt-ROOM c = start_short _ _ _ (omega arith) (omega arith) (omega arith) (omega arith) (omega arith)

pub returns : goal.returns
returns c =
    begin_made _ _ _ _ _ _ _ _ _ _ (omega arith) (omega arith) (omega arith) (omega arith) (omega arith) c.format.ensures c.begin.ensures
