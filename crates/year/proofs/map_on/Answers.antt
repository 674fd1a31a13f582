-- `year::map_on` meets its contract.
use mathlib.Core.Path.{sym}
use lib.Seq.{length-take-le}
use Rattle.year.proofs.Opened.{day_fits}
use Rattle.year.proofs.Replaying.{on_refused, on_made}
use Rattle.map.proofs.Handed.{handed}
use Rattle.year.proofs.map_on.Goals as goal

pub returns-in_err-caps : goal.returns-in_err-caps
returns-in_err-caps c = rw (handed _ _ c.from_residual.ensures.1) (on_refused _ _ _ _ _ c.about_day.ensures _ c.in_err-caps.was)

pub slice_bounds-replay_from-end : goal.slice_bounds-replay_from-end
slice_bounds-replay_from-end c =
    day_fits _ _ _ _ _ c.about_day.ensures _ c.in_ok-caps.was _ c.room_of-room.ensures

pub slice_bounds-replay_from-end-2 : goal.slice_bounds-replay_from-end-2
slice_bounds-replay_from-end-2 c =
    sym (length-take-le _ _ (day_fits _ _ _ _ _ c.about_day.ensures _ c.in_ok-caps.was _ c.room_of-room.ensures))

pub returns : goal.returns
returns c =
    on_made _ _ _ _ _ c.about_day.ensures _ c.in_ok-caps.was _ c.room_of-room.ensures _ _ c.entries_of.ensures c.count_up_to-n.ensures _ c.replay_from.ensures
