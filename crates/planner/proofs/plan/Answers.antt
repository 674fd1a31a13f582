-- `planner::plan` meets its contract.
use mathlib.Core.Path.{refl, sym, ◌∙◌}
use Prim.Native.Nat.{ℕ}
use native.Mathlib.Omega.{arith}
use lib.ListN.{length-replicate}
use Rattle.frames.proofs.Append.{append_length}
use Rattle.cell_set.proofs.Sets.{none_in}
use Rattle.planner.proofs.Answered.{plan_none, plan_refused, plan_short, plan_done}
use Rattle.map.proofs.Handed.{handed}
use Rattle.store.proofs.Shut.{shut}
use Rattle.planner.proofs.plan.Goals as goal

pub returns-in_err-caps : goal.returns-in_err-caps
returns-in_err-caps c =
    let p = shut _ _ _ _ c.from_residual.ensures.1 c.in_err-caps.was c.«open».ensures in
    rw p.0 (plan_none _ _ _ p.1)

pub returns-in_err-read_wanted : goal.returns-in_err-read_wanted
returns-in_err-read_wanted c =
    rw (handed _ _ c.from_residual-in_err-read_wanted.ensures.1)
    (plan_refused _ _ _ _ (sym c.in_ok-caps.was ∙ c.«open».ensures) _ c.read_wanted.ensures _ c.in_err-read_wanted.was)

pub overflow_add-total : goal.overflow_add-total
overflow_add-total c = omega (arith, c.mark_standing-coming.ensures.few)

pub returns-then-out-total : goal.returns-then-out-total
returns-then-out-total c =
    plan_short _ _ _ _ (sym c.in_ok-caps.was ∙ c.«open».ensures) _ c.read_wanted.ensures
    c.in_ok-read_wanted.was _ _ (none_in 65536) (length-replicate {A = ℕ} 65536 0) _
    c.mark_standing-coming.ensures _ c.count_going-going.ensures _ refl (omega arith)

pub shape_of-out : goal.shape_of-out
shape_of-out c = append_length _ c.write_plan.ensures.appended

pub returns : goal.returns
returns c =
    plan_done _ _ _ _ (sym c.in_ok-caps.was ∙ c.«open».ensures) _ c.read_wanted.ensures
    c.in_ok-read_wanted.was _ _ (none_in 65536) (length-replicate {A = ℕ} 65536 0) _
    c.mark_standing-coming.ensures _ c.count_going-going.ensures _ refl (omega arith) _ _ c.write_plan.ensures
