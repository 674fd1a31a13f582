-- `plan_check::plan_check` meets its contract.
use mathlib.Core.Path.{sym, ◌∙◌}
use native.Mathlib.Omega.{arith}
use lib.Seq.{length-take-le}
use Rattle.plan_check.proofs.Checking.{check_none, check_short, check_list, check_tried}
use Rattle.map.proofs.Handed.{handed}
use Rattle.store.proofs.Shut.{shut_as}
use Rattle.plan_check.specs.declared.Flaw.TheVariants.{Refused}
use Rattle.plan_check.proofs.plan_check.Goals as goal

pub returns-in_err-caps : goal.returns-in_err-caps
returns-in_err-caps c =
    let p = shut_as Refused _ _ _ _ c.from_residual.ensures.1 c.in_err-caps.was c.«open».ensures in
    rw p.0 (check_none _ _ _ _ p.1)

pub returns-then-second-room : goal.returns-then-second-room
returns-then-second-room c =
    check_short _ _ _ _ _ (sym c.in_ok-caps.was ∙ c.«open».ensures) _ c.room_of-room.ensures (omega arith)

pub returns-in_err-read_wanted : goal.returns-in_err-read_wanted
returns-in_err-read_wanted c =
    rw (handed _ _ c.from_residual-in_err-read_wanted.ensures.1)
    (check_list _ _ _ _ _ (sym c.in_ok-caps.was ∙ c.«open».ensures) _ c.room_of-room.ensures (omega arith) _ c.read_wanted.ensures _ c.in_err-read_wanted.was)

pub slice_bounds-try_plan-end-2 : goal.slice_bounds-try_plan-end-2
slice_bounds-try_plan-end-2 c = sym (length-take-le _ _ (omega arith))

pub returns : goal.returns
returns c =
    check_tried _ _ _ _ _ (sym c.in_ok-caps.was ∙ c.«open».ensures) _ c.room_of-room.ensures (omega arith) _ c.read_wanted.ensures c.in_ok-read_wanted.was _ _ c.try_plan.ensures
