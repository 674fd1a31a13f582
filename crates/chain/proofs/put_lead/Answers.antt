-- `chain::put_lead` meets its contract.
use mathlib.Core.Path.{sym, ◌∙◌}
use native.Mathlib.Omega.{arith}
use Rattle.chain.proofs.Places.{set_first, set_behind}
use Rattle.chain.proofs.put_lead.Goals as goal

pub returns-then-before-eq0 : goal.returns-then-before-eq0
returns-then-before-eq0 c = c.write_first.ensures ∙ sym (set_first _ _ _ _ _ c.if-before-eq0.true)

pub returns : goal.returns
returns c = c.write_link.ensures ∙ sym (set_behind _ _ _ _ _ _ (omega arith))
