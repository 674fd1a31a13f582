-- `journal::enter_remove` meets its contract.
use Rattle.mesh.proofs.Removing.{remove_says}
use Rattle.journal.proofs.Entering.{entry_refused, entry_open, entry_full, entry_own, entry_made, room_left, remove_words}
use Rattle.map.proofs.Handed.{handed}
use Rattle.journal.proofs.enter_remove.Goals as goal

pub returns-then-is_full : goal.returns-then-is_full
returns-then-is_full c =
    entry_full _ _ _ _ (entry_open _ _ _ _ c.about_entry.ensures _ c.in_ok-caps.was) _ c.is_full.ensures c.if-is_full.true _ (λ m. remove_says m _) _ c.about_cell.ensures _ c.when_full.ensures

pub returns-in_err-remove : goal.returns-in_err-remove
returns-in_err-remove c =
    rw (handed _ _ c.from_residual-in_err-remove.ensures.1)
    (entry_own _ _ _ _ (entry_open _ _ _ _ c.about_entry.ensures _ c.in_ok-caps.was) _ _ _ c.remove.ensures c.in_err-remove.was)

pub append-requires : goal.append-requires
append-requires c =
    room_left _ _ c.is_full.ensures c.if-is_full.false

pub returns-in_err-caps : goal.returns-in_err-caps
returns-in_err-caps c = rw (handed _ _ c.from_residual.ensures.1) (entry_refused _ _ _ _ c.about_entry.ensures _ c.in_err-caps.was)

pub returns : goal.returns
returns c =
    entry_made _ _ _ _ (entry_open _ _ _ _ c.about_entry.ensures _ c.in_ok-caps.was) _ c.is_full.ensures c.if-is_full.false _ _ _ _ c.remove.ensures c.in_ok-remove.was (remove_words _ _ _ _ c.part.ensures.words) c.append.ensures
