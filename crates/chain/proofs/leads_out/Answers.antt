-- `chain::leads_out` meets its contract.
use mathlib.Core.Path.{refl, ◌∙◌}
use Rattle.lists.proofs.Bools.{clash}
use Rattle.chain.proofs.leads_out.Goals as goal
use Rattle.chain.proofs.leads_out.Goals.{then-beyond, else-beyond}

pub loop-init : goal.loop-init
loop-init c =
    (c.entry-a.ensures, c.entry-b.ensures, c.entry-c.ensures)

pub returns-then-c-eq0 : goal.returns-then-c-eq0
returns-then-c-eq0 c = record { inside = λ s p l. refl }

pub loop-preserved : goal.loop-preserved
loop-preserved c =
    let inv = c.loop.invariant in
    (c.behind-a.ensures inv.0, c.behind-b.ensures inv.1, c.behind-c.ensures inv.2)

pub returns-then-beyond-2 : goal.returns-then-beyond-2
returns-then-beyond-2 c = record {
  inside = λ s p l. elim c.if-beyond.branch [
    | then-beyond w ↦ absurd (clash w.if-beyond.true (c.beyond.ensures (c.loop.invariant.0 s p l)))
    | else-beyond w ↦ w.value-is ∙ w.beyond-else-beyond.ensures (c.loop.invariant.1 s p l)
  ];
}

pub returns-else-beyond-2 : goal.returns-else-beyond-2
returns-else-beyond-2 c =
    record { inside = λ s p l. c.beyond-else-beyond-2.ensures (c.loop.invariant.2 s p l) }
