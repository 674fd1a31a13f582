-- `whole::few` meets its contract.
use native.Mathlib.Omega.{arith}
use borrow.Author.Tests.{tests}
use Rattle.whole.proofs.Readings.{few_first, few_flat, few_solid}
use Rattle.whole.proofs.few.Goals as goal
use Rattle.whole.proofs.few.Goals.{then-caps-ne-SECOND_EDITION, else-caps-ne-SECOND_EDITION}

pub returns-then-dimension-ne3 : goal.returns-then-dimension-ne3
returns-then-dimension-ne3 c =
    elim c.if-caps-ne-SECOND_EDITION.branch [
      | then-caps-ne-SECOND_EDITION w ↦ rw c.if-dimension-ne3.true (few_first c.args.caps _ _ w.if-caps-ne-SECOND_EDITION.true)
      | else-caps-ne-SECOND_EDITION w ↦ rw c.if-dimension-ne3.true
          (few_flat c.args.caps _ _ w.if-caps-ne-SECOND_EDITION.false _ w.dimension.ensures (λ e. grind (arith, tests, e, w.value-is, c.if-dimension-ne3.true)))
    ]

pub returns-else-dimension-ne3 : goal.returns-else-dimension-ne3
returns-else-dimension-ne3 c =
    elim c.if-caps-ne-SECOND_EDITION.branch [
      | then-caps-ne-SECOND_EDITION w ↦ absurd (grind (arith, tests, w.if-caps-ne-SECOND_EDITION.true, w.value-is, c.if-dimension-ne3.false))
      | else-caps-ne-SECOND_EDITION w ↦
          few_solid c.args.caps _ _ w.if-caps-ne-SECOND_EDITION.false _ w.dimension.ensures (grind (arith, tests, w.value-is, c.if-dimension-ne3.false))
    ]
