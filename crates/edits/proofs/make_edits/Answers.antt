-- `edits::make_edits` meets its contract.
use mathlib.Core.Path.{sym, ap, ◌∙◌}
use Rattle.std.specs.Prelude.{Err}
use Rattle.store.proofs.Shut.{not_mesh}
use lib.Seq.{length-take-le}
use Rattle.edits.proofs.Cut.{edits_none, cut_fits, edits_made}
use Rattle.edits.proofs.make_edits.Goals as goal

pub returns-in-Err : goal.returns-in-Err
returns-in-Err c =
    let e = sym c.in-Err.is ∙ c.«open».ensures in
    let no = not_mesh _ _ (sym e) in
    rw no (edits_none _ _ (sym (ap Err no) ∙ e))

pub slice_bounds-edit_all-end : goal.slice_bounds-edit_all-end
slice_bounds-edit_all-end c =
    cut_fits _ _ (sym c.in-Ok.is ∙ c.«open».ensures) _ c.room_of-room.ensures

pub slice_bounds-edit_all-end-in-Ok : goal.slice_bounds-edit_all-end-in-Ok
slice_bounds-edit_all-end-in-Ok c =
    sym (length-take-le _ _ (cut_fits _ _ (sym c.in-Ok.is ∙ c.«open».ensures) _ c.room_of-room.ensures))

pub returns-in-Ok : goal.returns-in-Ok
returns-in-Ok c =
    edits_made _ _ (sym c.in-Ok.is ∙ c.«open».ensures) _ c.room_of-room.ensures _ _ _ c.edit_all.ensures
