-- `journal_whole::entries_good` meets its contract.
use native.Mathlib.Omega.{arith}
use borrow.Author.Tests.{not-true, not-false}
use Rattle.journal_whole.proofs.Listing.{going_start, going_more, going_end, going_before, going_bad}
use Rattle.journal_whole.proofs.entries_good.Goals as goal

pub loop-k-init : goal.loop-k-init
loop-k-init c = going_start _ _ _ _ (omega arith) (omega arith)

pub returns-then-day-last : goal.returns-then-day-last
returns-then-day-last c =
    going_before _ _ c.loop-k.k c.loop-k.last c.loop-k.invariant _ (omega arith) _ c.day_of-day.ensures (omega arith)

pub returns-then-not-entry_good : goal.returns-then-not-entry_good
returns-then-not-entry_good c =
    going_bad _ _ c.loop-k.k c.loop-k.last c.loop-k.invariant _ (omega arith) _ c.entry_good.ensures (not-true _ c.if-not-entry_good.true-raw)

pub loop-k-preserved : goal.loop-k-preserved
loop-k-preserved c =
    going_more _ _ c.loop-k.k c.loop-k.last c.loop-k.invariant _ c.day_of-day.ensures (omega arith) _ c.entry_good.ensures (not-false _ c.if-not-entry_good.false-raw)

pub returns : goal.returns
returns c =
    going_end _ _ c.loop-k.k c.loop-k.last c.loop-k.invariant _ (omega arith) (omega arith)
