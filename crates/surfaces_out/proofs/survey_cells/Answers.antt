-- `surfaces_out::survey_cells` meets its contract.
use native.Mathlib.Omega.{arith}
use Rattle.surfaces_out.proofs.Listed.{survey_start, survey_other, survey_next, survey_few, survey_done, one_few}
use Rattle.surfaces_out.proofs.survey_cells.Goals as goal

pub loop-c-init : goal.loop-c-init
loop-c-init c = survey_start _ _

pub returns-then-is_other : goal.returns-then-is_other
returns-then-is_other c =
    survey_other _ _ _ _ _ c.loop-c.invariant _ c.code_of-t.ensures (omega arith) _ c.is_other.ensures c.if-is_other.true

pub overflow_add-faces : goal.overflow_add-faces
overflow_add-faces c =
    omega (arith, c.loop-c.invariant.fewer, one_few c.code_of-t.result _ c.live_one-faces.ensures)

pub overflow_add-bytes : goal.overflow_add-bytes
overflow_add-bytes c = omega (arith, survey_few _ _ _ _ _ c.loop-c.invariant _ c.cell_length-bytes.ensures)

pub loop-c-preserved : goal.loop-c-preserved
loop-c-preserved c =
    survey_next _ _ _ _ _ c.loop-c.invariant _ c.code_of-t.ensures _ c.is_other.ensures c.if-is_other.false _ _ c.live_one-faces.ensures c.cell_length-bytes.ensures

pub returns : goal.returns
returns c = survey_done _ _ _ _ _ c.loop-c.invariant (omega arith) (omega arith)
