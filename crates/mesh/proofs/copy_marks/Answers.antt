-- `mesh::copy_marks` meets its contract.
use mathlib.Core.Path.{refl}
use native.Mathlib.Omega.{arith}
use Rattle.lists.proofs.Mapped.{list_start, list_more}
use Rattle.facet.proofs.Copy.{marks_words}
use Rattle.mesh.proofs.Removing.{copied_all}
use Rattle.mesh.proofs.copy_marks.Goals as goal

pub loop-k-init : goal.loop-k-init
loop-k-init c = list_start _ _

pub loop-k-preserved : goal.loop-k-preserved
loop-k-preserved c = list_more _ _ c.loop-k.k _ _ _ c.loop-k.invariant c.put.ensures refl

pub returns : goal.returns
returns c = copied_all _ _ _ _ c.loop-k.k (marks_words _ _ _ _ c.marks_at-marks.ensures) c.loop-k.invariant (omega arith) (omega arith)
