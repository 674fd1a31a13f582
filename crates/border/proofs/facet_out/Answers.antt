-- `border::facet_out` meets its contract.
use native.Mathlib.Omega.{arith}
use borrow.Author.Tests.{ne_eqb}
use Rattle.border.proofs.Corners.{bit_one}
use Rattle.border.proofs.Walked.{facet_out_not, facet_out_walk}
use Rattle.border.proofs.facet_out.Goals as goal

pub returns-then-left-eq1 : goal.returns-then-left-eq1
returns-then-left-eq1 c =
    facet_out_walk _ _ _ _ _ _ _ _ (bit_one _ (λ e. omega (arith, e, c.if-left-eq1.true))) c.half_of.ensures c.walks_out.ensures

pub returns-else-left-eq1 : goal.returns-else-left-eq1
returns-else-left-eq1 c = rw (ne_eqb _ 1 c.if-left-eq1.false) (facet_out_not _ _ _ _ _ _)
