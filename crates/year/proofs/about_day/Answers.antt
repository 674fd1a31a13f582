-- `year::about_day` meets its contract.
use mathlib.Core.Path.{sym, ◌∙◌}
use native.Mathlib.Omega.{arith}
use borrow.Author.Tests.{not-true, not-false}
use Rattle.year.proofs.Opened.{day_none, day_other, day_folded, day_short, day_open}
use Rattle.store.proofs.Shut.{shut}
use Rattle.year.proofs.about_day.Goals as goal

pub returns-in_err-caps : goal.returns-in_err-caps
returns-in_err-caps c =
    let p = shut _ _ _ _ c.from_residual.ensures.1 c.in_err-caps.was c.«open».ensures in
    rw p.0 (day_none _ _ _ _ p.1)

pub returns-then-not-is_journal : goal.returns-then-not-is_journal
returns-then-not-is_journal c =
    day_other _ _ _ _ _ (sym c.in_ok-caps.was ∙ c.«open».ensures) _ c.is_journal.ensures (not-true _ c.if-not-is_journal.true-raw)

pub returns-then-is_folded : goal.returns-then-is_folded
returns-then-is_folded c =
    day_folded _ _ _ _ _ (sym c.in_ok-caps.was ∙ c.«open».ensures) _ c.is_journal.ensures (not-false _ c.if-not-is_journal.false-raw) _ c.is_folded.ensures c.if-is_folded.true

pub returns-then-words-room : goal.returns-then-words-room
returns-then-words-room c =
    day_short _ _ _ _ _ (sym c.in_ok-caps.was ∙ c.«open».ensures) _ c.is_journal.ensures (not-false _ c.if-not-is_journal.false-raw) _ c.is_folded.ensures c.if-is_folded.false _ c.room_of-room.ensures (omega arith)

pub returns : goal.returns
returns c =
    day_open _ _ _ _ _ (sym c.in_ok-caps.was ∙ c.«open».ensures) _ c.is_journal.ensures (not-false _ c.if-not-is_journal.false-raw) _ c.is_folded.ensures c.if-is_folded.false _ c.room_of-room.ensures (omega arith)
