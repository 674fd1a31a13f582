-- `journal::about_entry` meets its contract.
use mathlib.Core.Path.{sym, ◌∙◌}
use native.Mathlib.Omega.{arith}
use borrow.Author.Tests.{not-true, not-false}
use Rattle.journal.proofs.Opened.{opens_none, opens_other, opens_above, opens_before, opens_open}
use Rattle.store.proofs.Shut.{shut}
use Rattle.journal.proofs.about_entry.Goals as goal

pub returns-in_err-caps : goal.returns-in_err-caps
returns-in_err-caps c =
    let p = shut _ _ _ _ c.from_residual.ensures.1 c.in_err-caps.was c.«open».ensures in
    rw p.0 (opens_none _ _ _ p.1)

pub returns-then-not-is_journal : goal.returns-then-not-is_journal
returns-then-not-is_journal c = opens_other _ _ _ _ (sym c.in_ok-caps.was ∙ c.«open».ensures) _ c.is_journal.ensures (not-true _ c.if-not-is_journal.true-raw)

pub returns-then-day-gt-MOST_DAY : goal.returns-then-day-gt-MOST_DAY
returns-then-day-gt-MOST_DAY c = opens_above _ _ _ _ (sym c.in_ok-caps.was ∙ c.«open».ensures) _ c.is_journal.ensures (not-false _ c.if-not-is_journal.false-raw) (omega arith)

pub returns-then-day-last_of : goal.returns-then-day-last_of
returns-then-day-last_of c =
    opens_before _ _ _ _ (sym c.in_ok-caps.was ∙ c.«open».ensures) _ c.is_journal.ensures (not-false _ c.if-not-is_journal.false-raw) (omega arith) _ c.last_of.ensures (omega arith)

pub returns : goal.returns
returns c =
    opens_open _ _ _ _ (sym c.in_ok-caps.was ∙ c.«open».ensures) _ c.is_journal.ensures (not-false _ c.if-not-is_journal.false-raw) (omega arith) _ c.last_of.ensures (omega arith)
