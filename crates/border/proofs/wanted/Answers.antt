-- `border::wanted` meets its contract.
use mathlib.Core.Path.{◌∙◌}
use Rattle.border.proofs.Words.{wanted_any, wanted_border}
use Rattle.border.proofs.wanted.Goals as goal

pub returns-then-not-only : goal.returns-then-not-only
returns-then-not-only c = c.if-not-only.true-raw ∙ wanted_any _ _ _ _ _ c.if-not-only.true-raw

pub returns-else-not-only : goal.returns-else-not-only
returns-else-not-only c = wanted_border _ _ _ _ _ _ c.if-not-only.false-raw c.alone.ensures
