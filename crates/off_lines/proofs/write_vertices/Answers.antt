-- `off_lines::write_vertices` meets its contract.
use mathlib.Core.Path.{refl}
use native.Mathlib.Omega.{arith}
use Rattle.off_lines.proofs.Lines.{vertices_none, vertices_more, vertices_done}
use Rattle.off_lines.proofs.write_vertices.Goals as goal

pub loop-v-init : goal.loop-v-init
loop-v-init c = vertices_none _ _ _

pub loop-v-preserved : goal.loop-v-preserved
loop-v-preserved c = vertices_more _ _ _ refl c.loop-v.invariant c.write_vertex-next.ensures

pub returns : goal.returns
returns c = vertices_done _ _ _ (omega arith) (omega arith) c.loop-v.invariant
