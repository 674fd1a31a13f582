-- `year::fold` meets its contract.
use mathlib.Core.Path.{refl, sym, ◌∙◌}
use native.Mathlib.Omega.{arith}
use borrow.Author.Tests.{not-true, not-false}
use lib.Seq.{length-take-le}
use Rattle.edits.proofs.Cut.{cut_fits}
use Rattle.year.proofs.Folding.{allowed, fold_none, fold_other, fold_forbidden, fold_made}
use Rattle.store.proofs.Shut.{shut}
use Rattle.year.proofs.fold.Goals as goal

pub returns-in_err-caps : goal.returns-in_err-caps
returns-in_err-caps c =
    let p = shut _ _ _ _ c.from_residual.ensures.1 c.in_err-caps.was c.«open».ensures in
    rw p.0 (fold_none _ _ _ p.1)

pub returns-then-not-is_journal : goal.returns-then-not-is_journal
returns-then-not-is_journal c = fold_other _ _ _ _ (sym c.in_ok-caps.was ∙ c.«open».ensures) _ c.is_journal.ensures (not-true _ c.if-not-is_journal.true-raw)

pub returns-then-not_allowed : goal.returns-then-not_allowed
returns-then-not_allowed c =
    fold_forbidden _ _ _ _ (sym c.in_ok-caps.was ∙ c.«open».ensures) _ c.is_journal.ensures (not-false _ c.if-not-is_journal.false-raw) _ c.not_allowed.ensures c.if-not_allowed.true

pub slice_bounds-replay-end : goal.slice_bounds-replay-end
slice_bounds-replay-end c = cut_fits _ _ (sym c.in_ok-caps.was ∙ c.«open».ensures) _ c.room_of-room.ensures

pub slice_bounds-replay-end-2 : goal.slice_bounds-replay-end-2
slice_bounds-replay-end-2 c = sym (length-take-le _ _ (cut_fits _ _ (sym c.in_ok-caps.was ∙ c.«open».ensures) _ c.room_of-room.ensures))

pub returns : goal.returns
returns c =
    let year = (allowed _ _ _ _ (sym c.not_allowed.ensures ∙ c.if-not_allowed.false)).year in
    fold_made _ _ _ _ (sym c.in_ok-caps.was ∙ c.«open».ensures) _ c.is_journal.ensures (not-false _ c.if-not-is_journal.false-raw) _ c.not_allowed.ensures c.if-not_allowed.false _ c.room_of-room.ensures _ _ _ _ _ c.entries_of-n.ensures c.count_up_to-k.ensures c.last_of-last.ensures refl (omega (arith, year, c.last_of-last.ensures)) _ _ _ c.replay.ensures c.move_entries.ensures c.put_head.ensures
