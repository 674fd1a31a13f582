-- `replay::one_entry` meets its contract.
use mathlib.Core.Path.{refl}
use native.Mathlib.Omega.{arith}
use borrow.Author.Rules.{rules}
use Rattle.journal_store.proofs.Reading.{told_insert, told_other}
use Rattle.replay.proofs.Runs.{insert_entry, remove_entry}
use Rattle.replay.proofs.one_entry.Goals as goal
use Rattle.replay.proofs.one_entry.Goals.{in-Some+in-Remove-1, in-None-1}

pub returns-in-Some-Insert : goal.returns-in-Some-Insert
returns-in-Some-Insert c =
    let given = c.args in
    insert_entry given.j.now _ _ given.k _ _ refl c.cell_of.ensures _ (told_insert _ _ c.in-Some-Insert.ensures c.in-Some-Insert.field-0-is) _ _ _ _ _ c.type_of-t.ensures c.licence_of-licence.ensures c.marks_at.ensures c.mark_count.ensures c.part-marks.ensures.words c.insert_licensed.ensures

pub returns-in-Some-Remove : goal.returns-in-Some-Remove
returns-in-Some-Remove c =
    let given = c.args in
    remove_entry given.j.now _ _ given.k _ _ refl c.cell_of.ensures _
    (told_other _ _ c.kind_at.ensures (elim c.in-Some-Remove-1.branch [ in-Some+in-Remove-1 w ↦ search rules | in-None-1 w ↦ search rules ]))
    c.remove.ensures
