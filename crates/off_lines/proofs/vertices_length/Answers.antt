-- `off_lines::vertices_length` meets its contract.
use native.Mathlib.Omega.{arith}
use Rattle.off_lines.proofs.Lengths.{vertex_most, summed_start, summed_few, summed_next, summed_done}
use Rattle.off_lines.proofs.vertices_length.Goals as goal

pub loop-v-init : goal.loop-v-init
loop-v-init c = summed_start _

pub overflow_add-bytes : goal.overflow_add-bytes
overflow_add-bytes c =
    omega (arith, summed_few _ _ _ c.loop-v.invariant, vertex_most _ _ _ c.vertex_length-bytes.ensures)

pub loop-v-preserved : goal.loop-v-preserved
loop-v-preserved c = summed_next _ _ _ c.loop-v.invariant _ c.vertex_length-bytes.ensures

pub returns : goal.returns
returns c = summed_done _ _ _ c.loop-v.invariant _ (omega arith) (omega arith)
