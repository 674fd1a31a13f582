-- `journal::enter_insert` meets its contract.
use Rattle.mesh.proofs.Inserting.{insert_says}
use Rattle.journal.proofs.Entering.{entry_refused, entry_open, entry_full, entry_own, entry_made, room_left, insert_words}
use Rattle.map.proofs.Handed.{handed}
use Rattle.journal.proofs.enter_insert.Goals as goal

pub returns-then-is_full : goal.returns-then-is_full
returns-then-is_full c =
    entry_full _ _ _ _ (entry_open _ _ _ _ c.about_entry.ensures _ c.in_ok-caps.was) _ c.is_full.ensures c.if-is_full.true _ (λ m. insert_says m _ _ _ _) _ c.about_insert.ensures _ c.when_full.ensures

pub returns-in_err-insert_licensed : goal.returns-in_err-insert_licensed
returns-in_err-insert_licensed c =
    rw (handed _ _ c.from_residual-in_err-insert_licensed.ensures.1)
    (entry_own _ _ _ _ (entry_open _ _ _ _ c.about_entry.ensures _ c.in_ok-caps.was) _ _ _ c.insert_licensed.ensures c.in_err-insert_licensed.was)

pub append-requires : goal.append-requires
append-requires c =
    room_left _ _ c.is_full.ensures c.if-is_full.false

pub returns-in_err-caps : goal.returns-in_err-caps
returns-in_err-caps c = rw (handed _ _ c.from_residual.ensures.1) (entry_refused _ _ _ _ c.about_entry.ensures _ c.in_err-caps.was)

pub returns : goal.returns
returns c =
    entry_made _ _ _ _ (entry_open _ _ _ _ c.about_entry.ensures _ c.in_ok-caps.was) _ c.is_full.ensures c.if-is_full.false _ _ _ _ c.insert_licensed.ensures c.in_ok-insert_licensed.was (insert_words _ _ _ _ _) c.append.ensures
