-- `surfaces_out::face_length` meets its contract.
use native.Mathlib.Omega.{arith}
use Rattle.off_lines.proofs.Lengths.{number_most}
use Rattle.surfaces_out.proofs.Marked.{bytes_start, bytes_few, bytes_next, bytes_done}
use Rattle.surfaces_out.proofs.face_length.Goals as goal

pub loop-k-init : goal.loop-k-init
loop-k-init c = bytes_start _ _ _ c.number_length-bytes.ensures

pub overflow_add-bytes : goal.overflow_add-bytes
overflow_add-bytes c = omega (arith, number_most _ _ c.number_length.ensures)

pub overflow_add-bytes-in-loop-k : goal.overflow_add-bytes-in-loop-k
overflow_add-bytes-in-loop-k c =
    omega (arith, number_most _ _ c.number_length.ensures, bytes_few _ _ _ _ c.loop-k.invariant)

pub loop-k-preserved : goal.loop-k-preserved
loop-k-preserved c = bytes_next _ _ _ _ c.loop-k.invariant _ _ c.corner_of-v.ensures c.number_length.ensures

pub overflow_add-result : goal.overflow_add-result
overflow_add-result c = omega (arith, bytes_few _ _ _ _ c.loop-k.invariant)

pub returns : goal.returns
returns c = bytes_done _ _ _ _ c.loop-k.invariant (omega arith) (omega arith)
