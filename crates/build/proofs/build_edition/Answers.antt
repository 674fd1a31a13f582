-- `build::build_edition` meets its contract.
use Prim.Native.Nat.{◌-◌}
use native.Mathlib.Omega.{arith}
use Rattle.build.proofs.Records.{end_more}
use Rattle.build.proofs.Going.{build_refused, going_start, build_done, build_stopped, going_few, going_refused, going_next}
use Rattle.build.proofs.build_edition.Goals as goal

pub returns-in-Err : goal.returns-in-Err
returns-in-Err c =
    build_refused _ _ _ _ _ c.format_edition.ensures _ c.in-Err.is _ (omega arith)

pub loop-at-init : goal.loop-at-init
loop-at-init c = going_start _ _ _ _ _ c.format_edition.ensures c.in_default.is _ _ (omega arith) (omega arith)

pub returns-in-Err-one_record : goal.returns-in-Err-one_record
returns-in-Err-one_record c =
    let s = going_refused _ _ _ _ _ _ c.loop-at.invariant (omega arith) _ c.record_end-end.ensures _ _ c.one_record.ensures _ c.in-Err-one_record.is in
    build_stopped _ _ _ _ _ c.format_edition.ensures c.in_default.is _ _ s.0 _ _ s.1 _ _ _ _ c.format_edition-in-Err-one_record.ensures (omega arith) (omega arith) (omega arith) _ (omega arith)

pub overflow_add-place : goal.overflow_add-place
overflow_add-place c =
    omega (arith, going_few _ _ _ _ _ _ c.loop-at.invariant)

pub loop-at-smaller : goal.loop-at-smaller
loop-at-smaller c =
    omega (arith, end_more _ _ _ c.record_end-end.ensures (omega arith))

pub loop-at-preserved : goal.loop-at-preserved
loop-at-preserved c =
    going_next _ _ _ _ _ _ c.loop-at.invariant (omega arith) _ c.record_end-end.ensures _ _ c.one_record.ensures c.in_default-one_record.is _ _ (omega arith) (omega arith)

pub returns : goal.returns
returns c =
    build_done _ _ _ _ _ c.format_edition.ensures c.in_default.is _ _ _ c.loop-at.invariant (omega arith)
