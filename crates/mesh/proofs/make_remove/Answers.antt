-- `mesh::make_remove` meets its contract.
use mathlib.Core.Path.{refl}
use Rattle.mesh.proofs.Removing.{remove_by_record, made_none}
use Rattle.mesh.proofs.make_remove.Goals as goal

pub returns-then-leads_out : goal.returns-then-leads_out
returns-then-leads_out c = made_none _ _ _ _ c.leads_out.ensures c.if-leads_out.true

pub returns : goal.returns
returns c =
    remove_by_record _ _ _ _ _ c.copy_marks.ensures refl _ _ _ _ c.code_of-t.ensures c.mark_count.ensures c.part.ensures.words c.take_out.ensures
