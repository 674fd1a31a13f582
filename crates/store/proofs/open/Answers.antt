-- `store::open` meets its contract.
use mathlib.Core.Path.{sym, ap, ◌∙◌}
use borrow.Author.Tests.{not-true, not-false}
use native.Mathlib.Omega.{arith}
use Rattle.numbers.specs.Editions.{is_edition}
use Rattle.store.specs.Layout.{room, magic}
use Rattle.store.specs.Fields.{head_place}
use Rattle.store.specs.Open.{head_in, caps_in}
use Rattle.store.proofs.Opens.{open_short, open_other, open_marks, open_cells, open_edition, open_room, open_mesh}
use Rattle.store.proofs.open.Goals as goal

pub returns-then-w-lt-HEAD : goal.returns-then-w-lt-HEAD
returns-then-w-lt-HEAD c = sym (open_short _ (omega arith))

pub returns-then-word-ne-MAGIC : goal.returns-then-word-ne-MAGIC
unfolding room magic head_in head_place
returns-then-word-ne-MAGIC c = sym (open_other _ (omega arith) (λ e. (omega arith)))

pub returns-then-caps-gt-MOST_CAPACITY : goal.returns-then-caps-gt-MOST_CAPACITY
unfolding room magic head_in head_place
returns-then-caps-gt-MOST_CAPACITY c = sym (open_marks _ (omega arith) (omega arith) (omega arith))

pub returns-then-caps-gt-MOST_CAPACITY-2 : goal.returns-then-caps-gt-MOST_CAPACITY-2
unfolding room magic head_in head_place
returns-then-caps-gt-MOST_CAPACITY-2 c = sym (open_cells _ (omega arith) (omega arith) (omega arith) (omega arith))

pub returns-then-not-is_edition : goal.returns-then-not-is_edition
unfolding room magic head_in head_place
returns-then-not-is_edition c =
    sym (open_edition _ (omega arith) (omega arith) (omega arith) (omega arith)
    (ap is_edition (sym c.word-4.ensures) ∙ (sym c.is_edition.ensures ∙ not-true _ c.if-not-is_edition.true-raw)))

pub returns-then-w-room_of : goal.returns-then-w-room_of
unfolding room magic head_in head_place
returns-then-w-room_of c =
    sym (open_room _ (omega arith) (omega arith) (omega arith) (omega arith)
    (ap is_edition (sym c.word-4.ensures) ∙ (sym c.is_edition.ensures ∙ not-false _ c.if-not-is_edition.false-raw)) (omega arith))

pub returns : goal.returns
unfolding room magic head_in head_place caps_in
returns c =
    rw (c.word-2.ensures, c.word-3.ensures, c.word-4.ensures)
    (sym (open_mesh _ (omega arith) (omega arith) (omega arith) (omega arith)
    (ap is_edition (sym c.word-4.ensures) ∙ (sym c.is_edition.ensures ∙ not-false _ c.if-not-is_edition.false-raw)) (omega arith)))
