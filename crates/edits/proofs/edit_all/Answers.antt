-- `edits::edit_all` meets its contract.
use Prim.Native.Nat.{◌-◌}
use native.Mathlib.Omega.{arith}
use Rattle.edits.proofs.Going.{going_start, going_done, few_left, going_refused, going_less, going_next}
use Rattle.edits.proofs.Wellformed.{in_turn_size}
use Rattle.edits.proofs.edit_all.Goals as goal

pub loop-at-init : goal.loop-at-init
loop-at-init c = going_start _ _ _ _ (omega arith) (omega arith)

pub returns-in-Err : goal.returns-in-Err
returns-in-Err c =
    going_refused _ _ _ _ _ c.loop-at.invariant (omega arith) _ _ _ _ c.word-kind.ensures (omega arith) (omega arith) c.part.ensures.words _ _ c.one_edit.ensures _ c.in-Err.is

pub shape_of-w-in-Err : goal.shape_of-w-in-Err
shape_of-w-in-Err c = in_turn_size (returns-in-Err c)

pub overflow_add-at-in-Ok : goal.overflow_add-at-in-Ok
overflow_add-at-in-Ok c =
    omega (arith, going_less _ _ _ _ _ c.loop-at.invariant (omega arith) _ _ _ _ c.word-kind.ensures (omega arith) (omega arith) c.part.ensures.words _ _ c.one_edit.ensures _ c.in-Ok.is, few_left _ _ _ _ _ c.loop-at.invariant (omega arith) _ _ _ _ c.word-kind.ensures (omega arith) (omega arith) c.part.ensures.words)

pub overflow_add-made : goal.overflow_add-made
overflow_add-made c =
    omega (arith, c.loop-at.invariant.few)

pub loop-at-smaller : goal.loop-at-smaller
loop-at-smaller c =
    omega arith

pub loop-at-preserved : goal.loop-at-preserved
loop-at-preserved c =
    going_next _ _ _ _ _ c.loop-at.invariant (omega arith) _ _ _ _ c.word-kind.ensures (omega arith) (omega arith) c.part.ensures.words _ _ c.one_edit.ensures _ c.in-Ok.is _ _ (omega arith) (omega arith)

pub returns : goal.returns
returns c = going_done _ _ _ _ _ c.loop-at.invariant (omega arith)

pub shape_of-w : goal.shape_of-w
shape_of-w c = in_turn_size (returns c)
