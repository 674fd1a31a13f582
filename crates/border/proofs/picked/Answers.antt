-- `border::picked` meets its contract.
use mathlib.Core.Path.{◌∙◌}
use native.Mathlib.Omega.{arith}
use borrow.Author.Tests.{ne_eqb}
use Rattle.border.proofs.Corners.{picked_not, picked_wanted}
use Rattle.border.proofs.picked.Goals as goal

pub returns-then-left-eq1 : goal.returns-then-left-eq1
returns-then-left-eq1 c = picked_wanted _ _ _ _ _ _ (λ e. omega (arith, e, c.if-left-eq1.true)) _ c.wanted.ensures

pub returns-else-left-eq1 : goal.returns-else-left-eq1
returns-else-left-eq1 c = ne_eqb _ 1 c.if-left-eq1.false ∙ picked_not _ _ _ _ _ _ (omega (arith, c.if-left-eq1.false))
