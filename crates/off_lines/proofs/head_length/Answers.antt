-- `off_lines::head_length` meets its contract.
use native.Mathlib.Omega.{arith}
use Rattle.off_lines.proofs.Lengths.{number_most, head_long}
use Rattle.off_lines.proofs.head_length.Goals as goal

pub overflow_add-result : goal.overflow_add-result
overflow_add-result c = omega (arith, number_most _ _ c.number_length.ensures)

pub overflow_add-result-2 : goal.overflow_add-result-2
overflow_add-result-2 c = omega (arith, number_most _ _ c.number_length.ensures, number_most _ _ c.number_length-2.ensures)

pub returns : goal.returns
returns c =
    omega (arith, c.number_length.ensures, c.number_length-2.ensures, head_long c.args.marks c.args.cells)
