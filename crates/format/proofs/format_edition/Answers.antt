-- `format::format_edition` meets its contract.
use mathlib.Core.Path.{sym, ◌∙◌}
use native.Mathlib.Omega.{arith}
use borrow.Author.Tests.{not-true, not-false}
use Rattle.format.proofs.Head.{format_edition, format_marks, format_cells, format_short, format_made}
use Rattle.format.proofs.format_edition.Goals as goal

pub returns-then-not-is_edition : goal.returns-then-not-is_edition
returns-then-not-is_edition c = format_edition _ _ (sym c.is_edition.ensures ∙ not-true _ c.if-not-is_edition.true-raw)

pub returns-then-marks-gt-MOST_CAPACITY : goal.returns-then-marks-gt-MOST_CAPACITY
returns-then-marks-gt-MOST_CAPACITY c =
    format_marks _ _ (sym c.is_edition.ensures ∙ not-false _ c.if-not-is_edition.false-raw) (omega arith)

pub returns-then-cells-gt-MOST_CAPACITY : goal.returns-then-cells-gt-MOST_CAPACITY
returns-then-cells-gt-MOST_CAPACITY c =
    format_cells _ _ (sym c.is_edition.ensures ∙ not-false _ c.if-not-is_edition.false-raw) (omega arith) (omega arith)

pub returns-then-w-room : goal.returns-then-w-room
returns-then-w-room c =
    format_short _ _ (sym c.is_edition.ensures ∙ not-false _ c.if-not-is_edition.false-raw) (omega arith) (omega arith)
    (omega (arith, c.room_of-room.ensures))

pub returns : goal.returns
returns c =
    format_made _ _ (sym c.is_edition.ensures ∙ not-false _ c.if-not-is_edition.false-raw) (omega arith) (omega arith)
    (omega (arith, c.room_of-room.ensures)) _ _ _ c.clear.ensures c.room_of-room.ensures c.write_head.ensures
