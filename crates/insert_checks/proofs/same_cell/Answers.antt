-- `admit::same_cell` meets its contract.
use mathlib.Core.Path.{refl}
use Rattle.lists.proofs.Bools.{clash}
use Rattle.chain.proofs.Inner.{wf_inside}
use Rattle.insert_checks.proofs.Alike.{same_found}
use Rattle.insert_checks.proofs.same_cell.Goals as goal

pub returns-then-leads_out : goal.returns-then-leads_out
returns-then-leads_out c = record { tells = λ m e wf kind count mark. absurd (clash c.if-leads_out.true (wf_inside _ _ _ c.leads_out.ensures m e wf)) }

pub returns : goal.returns
returns c =
    same_found _ _ _ _ _ c.word.ensures _ _ _ c.gather-n.ensures refl _ c.one_same.ensures
