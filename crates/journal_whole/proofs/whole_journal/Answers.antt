-- `journal_whole::whole_journal` meets its contract.
use mathlib.Core.Path.{refl, sym, ◌∙◌}
use native.Mathlib.Omega.{arith}
use borrow.Author.Tests.{not-true, not-false}
use Rattle.journal_store.specs.Entries.{entry_at}
use Rattle.journal_whole.proofs.Wholes.{no_mesh, no_journal, no_head, no_rest, no_entries, no_room, no_behind, all_passed}
use Rattle.store.proofs.Shut.{only_refusal}
use Rattle.journal_whole.proofs.whole_journal.Goals as goal

pub returns-in_default : goal.returns-in_default
returns-in_default c = no_mesh _ _ (only_refusal _ _ (sym c.in_default.is ∙ c.«open».ensures))

pub returns-then-not-is_journal : goal.returns-then-not-is_journal
returns-then-not-is_journal c = no_journal _ _ _ (sym c.in-Ok.is ∙ c.«open».ensures) _ c.is_journal.ensures (not-true _ c.if-not-is_journal.true-raw)

pub returns-then-not-head_good : goal.returns-then-not-head_good
returns-then-not-head_good c = no_head _ _ _ (sym c.in-Ok.is ∙ c.«open».ensures) _ c.is_journal.ensures (not-false _ c.if-not-is_journal.false-raw) _ c.head_good.ensures (not-true _ c.if-not-head_good.true-raw)

pub returns-then-not-zeros : goal.returns-then-not-zeros
returns-then-not-zeros c = no_rest _ _ _ (sym c.in-Ok.is ∙ c.«open».ensures) _ c.is_journal.ensures (not-false _ c.if-not-is_journal.false-raw) _ c.zeros.ensures (not-true _ c.if-not-zeros.true-raw)

pub returns-then-not-entries_good : goal.returns-then-not-entries_good
returns-then-not-entries_good c =
    no_entries _ _ _ (sym c.in-Ok.is ∙ c.«open».ensures) _ c.is_journal.ensures (not-false _ c.if-not-is_journal.false-raw) _ _ 0 0 c.entries_of-n.ensures c.first_of.ensures _ c.entries_good.ensures (not-true _ c.if-not-entries_good.true-raw)

pub returns-then-used-at : goal.returns-then-used-at
returns-then-used-at c =
    no_room _ _ _ (sym c.in-Ok.is ∙ c.«open».ensures) _ c.is_journal.ensures (not-false _ c.if-not-is_journal.false-raw) _ _ (entry_at c.entries_of-n.result) _ c.entries_of-n.ensures c.first_of.ensures refl c.used_of-used.ensures (omega arith)

pub returns-then-not-zeros-2 : goal.returns-then-not-zeros-2
returns-then-not-zeros-2 c =
    no_behind _ _ _ (sym c.in-Ok.is ∙ c.«open».ensures) _ c.is_journal.ensures (not-false _ c.if-not-is_journal.false-raw) _ _ _ _ c.entries_of-n.ensures c.first_of.ensures (omega arith) c.used_of-used.ensures _ (omega arith) _ c.zeros-2.ensures (not-true _ c.if-not-zeros-2.true-raw)

pub returns : goal.returns
returns c =
    all_passed _ _ _ (sym c.in-Ok.is ∙ c.«open».ensures) _ c.is_journal.ensures (not-false _ c.if-not-is_journal.false-raw) _ _ _ _ c.entries_of-n.ensures c.first_of.ensures (omega arith) c.used_of-used.ensures _ (omega arith) (omega arith) _ _ _ _ c.head_good.ensures (not-false _ c.if-not-head_good.false-raw) c.zeros.ensures (not-false _ c.if-not-zeros.false-raw) c.entries_good.ensures (not-false _ c.if-not-entries_good.false-raw) c.zeros-2.ensures (not-false _ c.if-not-zeros-2.false-raw) _ c.whole.ensures
