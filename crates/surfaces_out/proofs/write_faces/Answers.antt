-- `surfaces_out::write_faces` meets its contract.
use native.Mathlib.Omega.{arith}
use Rattle.surfaces_out.proofs.Listed.{cells_none, cells_more, cells_done}
use Rattle.surfaces_out.proofs.write_faces.Goals as goal

pub loop-c-init : goal.loop-c-init
loop-c-init c = cells_none _ _ _ _

pub loop-c-preserved : goal.loop-c-preserved
loop-c-preserved c = cells_more _ _ _ c.loop-c.invariant c.write_cell-next.ensures

pub returns : goal.returns
returns c = cells_done _ _ _ (omega arith) (omega arith) c.loop-c.invariant
